-- An identity out of range is refused with 12 by every start and every call, whatever the store: a serial number or a model of 17 bytes or
-- more, and the ID 0 of the value that stands for no board. A board that a start does give is sound.
use Prim.Native.Nat.{ℕ, ◌≤◌}
use mathlib.Core.Bool.{Bool, true, false, cond, ◌&&◌, and-false}
use mathlib.Core.List.{List}
use mathlib.Core.Logic.{◌⊎◌, inl, inr, ⊎_elim, ◌≢◌}
use mathlib.Core.Path.{◌≡◌, refl}
use native.Mathlib.Omega.{arith}
use borrow.Author.Tests.{eq-eqb, ne_eqb, eqb-true, lt-leb}
use lib.Dec.{eqb}
use lib.ListN.{length, get_or}
use Rattle.plan.specs.Stores.{applied}
use Rattle.calls.specs.Board.{Identity, Started, board, start_refused}
use Rattle.calls.proofs.FirstBytes.{clear_first}
use Rattle.calls.proofs.Pending.{pending_sound}
use Rattle.calls.proofs.Steps.{refusal-changes_nothing}
use Rattle.calls.proofs.Kept.{rest-sound}
use Rattle.wire.proofs.Tests.{cond-by, both}
use Rattle.calls.specs.Calls.{mark, is_short, refuse, at_rest, is_sound, on_call, on_step, on_start}
use Rattle.layouts.specs.Layouts.{layout_mark, is_layout, fits_layout, conversion, unused_store}
use Rattle.layouts.proofs.ConversionLaws.{Current, layout_mark_lem, converted-current}
use Rattle.packets.specs.Packets.{BoardState, is_identity}
use Rattle.board.specs.BoardKind.{Call, lends, start_other, board_kind}
use Rattle.board.proofs.BoardLaws.{board-laws}

-- ---- identities out of range

pub long_serial : (i : Identity) → 17 ≤ length i.serial → is_identity i ≡ false
unfolding is_identity
long_serial i h = rw (lt-leb (length i.serial) 16 h, and-false)

pub long_model : (i : Identity) → 17 ≤ length i.model → is_identity i ≡ false
unfolding is_identity
long_model i h = rw (lt-leb (length i.model) 16 h, and-false)

pub no_id : (i : Identity) → i.id ≡ 0 → is_identity i ≡ false
unfolding is_identity
no_id i e = rw (lt-leb 1 i.id (omega arith))

-- ---- what they get

unnamed_unsound : (s : BoardState) (m : List ℕ) → is_identity s.ident ≡ false → is_sound board_kind s m ≡ false
unfolding is_sound
unnamed_unsound s m e = rw e

pub unnamed_call_refused : (c : Call) (s : BoardState) (m lent : List ℕ) → is_identity s.ident ≡ false
    → on_call board_kind c s m lent ≡ refuse board_kind (cond (lends c && is_short lent) 10 12) s lent
unnamed_call_refused c s m lent e = go (lends c && is_short lent) refl
  where
    go : (t : Bool) → (lends c && is_short lent) ≡ t → on_call board_kind c s m lent ≡ refuse board_kind (cond t 10 12) s lent
    go true f = (refusal-changes_nothing board_kind).short_call c s m lent f
    go false f = (refusal-changes_nothing board_kind).unsound_call c s m lent f (unnamed_unsound s m e)

pub unnamed_step_refused : (s : BoardState) (m lent : List ℕ) → is_identity s.ident ≡ false
    → on_step board_kind s m lent ≡ refuse board_kind (cond (is_short lent) 10 12) s lent
unnamed_step_refused s m lent e = go (is_short lent) refl
  where
    go : (t : Bool) → is_short lent ≡ t → on_step board_kind s m lent ≡ refuse board_kind (cond t 10 12) s lent
    go true f = (refusal-changes_nothing board_kind).short_step s m lent f
    go false f = (refusal-changes_nothing board_kind).unsound_step s m lent f (unnamed_unsound s m e)

not_erasing : (k : ℕ) → is_layout k ≡ true → k ≢ 0xE7
not_erasing k h e = ⊎_elim (λ q. omega arith) (λ q. omega arith) (layout_mark_lem k h)

pub unnamed_start_refused : (i : Identity) (m : List ℕ) → length m ≡ 128 → (is_layout (mark m) ≡ true) ⊎ (mark m ≡ 0xE7) → is_identity i ≡ false
    → on_start board_kind i m ≡ start_refused 12
unfolding on_start start_other
unnamed_start_refused i m size (inl k) e = rw (eq-eqb (length m) 128 size, ne_eqb (mark m) 0xE7 (not_erasing (mark m) k), k, e)
unnamed_start_refused i m size (inr k) e = rw (eq-eqb (length m) 128 size, eq-eqb (mark m) 0xE7 k, e)

-- ---- what a start gives is sound

abbrev pub SoundlyStarted : List ℕ → Started BoardState → Type 0
SoundlyStarted m (board s es) = is_sound board_kind s (applied es m) ≡ true
SoundlyStarted m (start_refused n) = Unit {0}

unused-marked : (m : List ℕ) → get_or m 0 0 ≡ layout_mark → mark m ≡ mark unused_store
unfolding mark unused_store
unused-marked m e = e

converted : (m : List ℕ) → length m ≡ 128 → is_layout (mark m) ≡ true → fits_layout m ≡ true → Current (applied (conversion m) m)
unfolding mark
converted m size is fits = converted-current m size is fits

pub started-sound : (i : Identity) (m : List ℕ) → SoundlyStarted m (on_start board_kind i m)
unfolding on_start start_other at_rest
started-sound i m =
    cond-by (SoundlyStarted m) (eqb (length m) 128 && eqb (mark m) 0xE7) _ _
    (λ t. let b = both (eqb (length m) 128) (eqb (mark m) 0xE7) t in
    cond-by (SoundlyStarted m) (is_identity i) _ _
    (λ n. pending_sound board-laws false
    (record { named = n; below = omega arith; size = eqb-true (length m) 128 b.0; marked = eqb-true (mark m) 0xE7 b.1; cleared = clear_first m unused_store }))
    (λ _. tt))
    (λ _. cond-by (SoundlyStarted m) (eqb (length m) 128 && is_layout (mark m)) _ _
    (λ t. let b = both (eqb (length m) 128) (is_layout (mark m)) t in
    cond-by (SoundlyStarted m) (is_identity i && fits_layout m) _ _
    (λ u. let c = both (is_identity i) (fits_layout m) u in
    let now = converted m (eqb-true (length m) 128 b.0) b.1 c.1 in
    rest-sound board-laws (record { named = c.0; size = now.size; marked = unused-marked (applied (conversion m) m) now.marked; ranged = now.ranged }))
    (λ _. tt)) (λ _. tt))
