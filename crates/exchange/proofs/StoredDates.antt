-- A date in the ranges of its fields keeps a store sound, whatever the calendar says of it.
use mathlib.Core.Bool.{true, ◌&&◌}
use mathlib.Core.List.{List, []}
use mathlib.Core.Path.{◌≡◌, refl, sym, ◌∙◌, subst}
use Prim.Native.Nat.{ℕ}
use native.Mathlib.Omega.{arith}
use lib.Dec.{eqb}
use borrow.Author.Tests.{eqb-true, le-leb}
use Rattle.wire.proofs.Tests.{both}
use Rattle.messages.specs.declared.message.Date.{Date}
use Rattle.calls.specs.Board.{Identity}
use Rattle.calls.specs.Calls.{at_rest}
use Rattle.calls.specs.Lists.{from, run}
use Rattle.calls.proofs.Kept.{rest-start}
use Rattle.store.specs.Contents.{date_of, is_storable, with_date}
use Rattle.store.proofs.DateLaws.{standard_shown, date_applied}
use Rattle.packets.specs.Packets.{holding}
use Rattle.packets.proofs.EffectLaws.{date_keeps}
use Rattle.board.proofs.BoardLaws.{Resting, resting-sound, stores-kept, board-laws}
use Rattle.exchange.specs.Rows.{Idle, Ready}
use Rattle.exchange.specs.StoredDates.{was_accepted, StoredDates}
use Rattle.exchange.proofs.RowLaws.{rest}
use Rattle.exchange.proofs.StoreBytes.{date_bytes}
use Rattle.exchange.proofs.Contents.{date_elsewhere, date_shows}

was_storable : (d : Date) → was_accepted d ≡ (is_storable d && eqb d.daylight 0)
unfolding is_storable
was_storable d =
    rw (le-leb 0 d.year (omega arith), le-leb 0 d.weekday (omega arith), le-leb 0 d.hour (omega arith), le-leb 0 d.minute (omega arith))

storable : (d : Date) → was_accepted d ≡ true → (is_storable d ≡ true) × (d.daylight ≡ 0)
storable d e =
    let b = both (is_storable d) (eqb d.daylight 0) (sym (was_storable d) ∙ e) in
    (b.0, eqb-true d.daylight 0 b.1)

module _ (i : Identity) (m : List ℕ) (ready : Ready i m) where
  rests : (d : Date) → is_storable d ≡ true → Resting i [] (with_date m d)
  rests d s =
      let r = rest i m ready.rests in
      subst (Resting i []) (date_applied m d) (stores-kept (date_keeps m r.size r.ranged d s) r)

  pub stored_dates : StoredDates i m
  unfolding run from date_of at_rest
  stored_dates d e =
      let b = storable d e in
      let r = rests d b.0 in
      let idle : Idle (holding i []) (with_date m d) = record { sound = resting-sound r; resting = refl; empty = refl } in
      let start = rest-start board-laws (record { named = r.named; size = r.size; marked = r.marked; ranged = r.ranged }) in
      record {
        store = with_date m d;
        dated = standard_shown m d (omega (arith, (rest i m ready.rests).size)) b.0 b.1;
        others = (date_elsewhere m d).bits;
        ready = record { rests = idle; in_bytes = record { serial = ready.in_bytes.serial; model = ready.in_bytes.model; store = date_bytes m d ready.in_bytes.store } };
        starts = λ s es. rw start;
        shown = date_shows i m ready d b.0 b.1 idle;
      }
