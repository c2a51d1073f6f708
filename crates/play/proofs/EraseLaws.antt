-- What `play_erase` leaves: where the byte began an erase, the run after it is demand 3's.
use mathlib.Core.List.{List}
use mathlib.Core.Path.{◌≡◌, refl, sym, ap, ◌∙◌}
use Prim.Native.Nat.{ℕ}
use native.Mathlib.Omega.{arith}
use lib.ListN.{length, set, length-set}
use Rattle.calls.specs.Board.{Identity, begun, after}
use Rattle.calls.specs.Lists.{Acceptance, run, identity, left, trace_after}
use Rattle.packets.specs.Packets.{BoardState}
use Rattle.board.specs.BoardKind.{board_kind}
use Rattle.board.specs.Demand3.{Events, Trace, expected, owed}
use Rattle.board.specs.View.{state_of, answer_of, gave, Result, result}
use Rattle.board.specs.declared.board.Answer.{Answer}
use Rattle.board.specs.declared.board.Done.{Done}
use Rattle.board.proofs.Demand3.{demand3}
use Rattle.play.specs.Play.{events_in, Plays}
use Rattle.play.specs.Erase.{outcome, accepted, PlaysErase, PlaysNone}

-- an answer other than the third is not erase begun
not_begun : (a : Answer) → (a ≡ Answer.Begun → ⊥) → answer_of a ≡ begun → ⊥
not_begun Answer.Waiting k e = let z : ◌≡◌ {A = ℕ} 0 1 = cc in omega arith
not_begun Answer.Silent k e = let z : ◌≡◌ {A = ℕ} 0 1 = cc in omega arith
not_begun Answer.Begun k e = k refl
not_begun Answer.More k e = let z : ◌≡◌ {A = ℕ} 0 1 = cc in omega arith
not_begun Answer.Ended k e = let z : ◌≡◌ {A = ℕ} 0 1 = cc in omega arith
not_begun (Answer.Refused r) k e = let z : ◌≡◌ {A = ℕ} 0 1 = cc in omega arith
not_begun (Answer.Reply n) k e = let z : ◌≡◌ {A = ℕ} 0 1 = cc in omega arith

-- the run after an acceptance, on the store that it left
module _ (a : Acceptance board_kind) where
  size : length (after (left board_kind a) a.store) ≡ 128
  size = rw (demand3.accepted_store a) (length-set a.store 0 0xE7 ∙ demand3.accepted_size a)

  traced : (es : Events) → run board_kind (identity board_kind a) (left board_kind a).state (set a.store 0 0xE7) es
      ≡ expected (identity board_kind a) (owed a) 0 (set a.store 0 0xE7) es
  unfolding trace_after
  traced es = rw (demand3.accepted_store a) at (demand3.traced a es)

  module _ (i : Identity) (m' es lent lent' log log' : List ℕ) where
    -- a trace of the events, on the store that the acceptance left
    abbrev Leaves : Trace → Type 0
    Leaves t = Plays t (set a.store 0 0xE7) m' lent lent' log log'

    played-on : (u : BoardState) (m₁ : List ℕ) → u ≡ (left board_kind a).state → m₁ ≡ after (left board_kind a) a.store
        → Plays (run board_kind i u m₁ (events_in (length m₁) (length log) es lent)) m₁ m' lent lent' log log'
        → Leaves (run board_kind i (left board_kind a).state (set a.store 0 0xE7) (events_in 128 (length log) es lent))
    played-on u m₁ state store p = rw (state, store, size, demand3.accepted_store a) at p

    as_expected : i ≡ identity board_kind a → Leaves (run board_kind i (left board_kind a).state (set a.store 0 0xE7) (events_in 128 (length log) es lent))
        → Leaves (expected i (owed a) 0 (set a.store 0 0xE7) (events_in 128 (length log) es lent))
    as_expected named p = rw named (rw (named, traced) at p)

module _ (d : Done) (b : ℕ) (s : BoardState) (m m₁ reply reply₁ : List ℕ) (given : gave d m₁ reply₁ ≡ result (outcome b s m reply) m) where
  stored : m₁ ≡ after (outcome b s m reply) m
  stored = ap (λ (r : Result). r.store) given

  pub none-played : (lent log : List ℕ) → (d.answer ≡ Answer.Begun → ⊥) → PlaysNone b s m m₁ reply reply₁ lent lent log log
  none-played lent log k =
      record {
        not_begun = λ e. not_begun d.answer k (ap (λ (r : Result). r.answer) given ∙ e);
        store = stored;
        buffer = ap (λ (r : Result). r.buffer) given;
        lent_kept = refl;
        log_kept = refl;
      }

  pub erase_played : (i : Identity) (m' es lent lent' log log' : List ℕ) → d.answer ≡ Answer.Begun
      → Plays (run board_kind i (state_of d.board) m₁ (events_in (length m₁) (length log) es lent)) m₁ m' lent lent' log log'
      → PlaysErase i b s m m' reply reply₁ es lent lent' log log'
  unfolding left identity
  erase_played i m' es lent lent' log log' q p =
      let e : (outcome b s m reply).answer ≡ begun = ap (λ (r : Result). r.answer) (sym given) ∙ ap answer_of q in
      let a = accepted b s m reply e in
      let on = played-on a i m' es lent lent' log log' (state_of d.board) m₁ (ap (λ (r : Result). r.state) given) stored p in
      record {
        begins = e;
        untouched = ap (λ (r : Result). r.buffer) given ∙ demand3.accepted_buffer a;
        played = on;
        as_expected = λ named. as_expected a i m' es lent lent' log log' named on;
      }
