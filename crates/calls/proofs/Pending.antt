-- While an erase is pending the bytes before its place are an unused board's: each step keeps that true one place further, and the last completes it.
use mathlib.Core.Path.{◌≡◌, refl, sym, ◌∙◌, subst}
use mathlib.Core.Bool.{Bool, true, false, cond, ◌&&◌}
use mathlib.Core.List.{List, []}
use Prim.Native.Nat.{ℕ, suc, ◌≤◌, ◌<◌}
use native.Mathlib.Omega.{arith}
use lib.ListN.{length, get_or, set, length-set}
use lib.Dec.{ltb}
use lib.Seq.{get_or-set_same, get_or-set_other}
use borrow.Author.Tests.{eq-eqb, le-leb}
use Rattle.calls.specs.Board.{Identity, board}
use Rattle.calls.specs.Kind.{Kind}
use Rattle.calls.specs.Calls.{mark, erase_mark, first_bytes, is_short, clears_at, Board, Left, entry_check, refuse, erasing, is_sound_as, is_sound, entry_check_of, on_call, clear_step, end_step, step_on, on_step, on_start}
use Rattle.calls.proofs.Demand.{wiped}
use Rattle.calls.proofs.FirstBytes.{same_refl, clear_first, clear_next, clear_last}
use Rattle.calls.proofs.Steps.{refusal-changes_nothing, step-clears_or_ends}
use Rattle.calls.proofs.Laws.{Startable, Laws}

-- an erase is pending at place n + 1: n steps have run
pub record Pending (K : Kind) (i : Identity) (n : ℕ) (m : List ℕ) : Type 0 where
  pub named : K.is_identity i ≡ true
  pub below : n < 128
  pub size : length m ≡ 128
  pub marked : mark m ≡ erase_mark
  pub cleared : first_bytes (suc n) m ≡ first_bytes (suc n) K.unused

module _ {K : Kind} where
  -- an acceptance: E7h in byte 0
  pub pending-first : {i : Identity} {m : List ℕ} → Startable K i m → Pending K i 0 (set m 0 erase_mark)
  unfolding mark
  pending-first {i} {m} a =
      record {
        named = a.named;
        below = omega arith;
        size = length-set m 0 erase_mark ∙ a.size;
        marked = get_or-set_same m 0 erase_mark 0 (rw a.size (omega arith));
        cleared = clear_first (set m 0 erase_mark) K.unused;
      }

  -- a start
  pub pending_again : {i : Identity} {n : ℕ} {m : List ℕ} → Pending K i n m → Pending K i 0 m
  pending_again {i} {n} {m} h =
      record { named = h.named; below = omega arith; size = h.size; marked = h.marked; cleared = clear_first m K.unused }

  pub pending_start : {i : Identity} {n : ℕ} {m : List ℕ} → Pending K i n m → on_start K i m ≡ board (erasing K i 1 K.none_owed) []
  unfolding on_start
  pending_start h = simp (h.named, eq-eqb _ _ h.size, eq-eqb _ _ h.marked)

module _ {K : Kind} (L : Laws K) where
  -- a step that is not the last
  pub pending_next : {i : Identity} {n : ℕ} {m : List ℕ} → Pending K i n m → n < 127 → Pending K i (suc n) (wiped K m (suc n))
  unfolding wiped mark
  pending_next {i} {n} {m} h k =
      record {
        named = h.named;
        below = omega arith;
        size = length-set m (suc n) (get_or K.unused (suc n) 0) ∙ h.size;
        marked = get_or-set_other m (suc n) 0 (get_or K.unused (suc n) 0) 0 (omega arith) ∙ h.marked;
        cleared = clear_next m K.unused (suc n) (omega arith) (omega arith) (h.size ∙ sym L.size) h.cleared;
      }

  -- the last step
  pub pending_last : {i : Identity} {n : ℕ} {m : List ℕ} → Pending K i n m → 127 ≤ n → set m 0 (mark K.unused) ≡ K.unused
  unfolding mark
  pending_last {i} {n} {m} h k =
      let e : suc n ≡ length m = omega arith in
      clear_last m K.unused (h.size ∙ sym L.size) (subst (λ (p : ℕ). first_bytes p m ≡ first_bytes p K.unused) e h.cleared)

  pub pending_sound : {i : Identity} {n : ℕ} {m : List ℕ} (owed : K.Owed) → Pending K i n m → is_sound K (erasing K i (suc n) owed) m ≡ true
  unfolding is_sound is_sound_as erasing
  pending_sound {i} {n} owed h =
      simp (h.named, h.cleared, same_refl, L.nothing_yes, eq-eqb _ _ h.size, eq-eqb _ _ h.marked, le-leb 1 (suc n) (omega arith), le-leb (suc n) 128 h.below)

  -- a call refuses
  pub pending_call : {i : Identity} {n : ℕ} {m : List ℕ} (c : K.Call) (owed : K.Owed) (lent : List ℕ) → Pending K i n m
      → on_call K c (erasing K i (suc n) owed) m lent ≡ refuse K (cond (K.lends c && is_short lent) 10 9) (erasing K i (suc n) owed) lent
  unfolding erasing
  pending_call {i} {n} {m} c owed lent h = go (K.lends c && is_short lent) refl
    where
      s : Board K
      s = erasing K i (suc n) owed

      go : (t : Bool) → K.lends c && is_short lent ≡ t → on_call K c s m lent ≡ refuse K (cond t 10 9) s lent
      go true e = (refusal-changes_nothing K).short_call c s m lent e
      go false e = (refusal-changes_nothing K).pending_call c s m lent (suc n) owed e (pending_sound owed h) refl

  -- a step refuses a short buffer, clears the next byte, or is the last: what holds of each holds of the step
  pub pending_step : {i : Identity} {n : ℕ} {m : List ℕ} (P : Left K → Type 0) (owed : K.Owed) (lent : List ℕ) → Pending K i n m
      → (is_short lent ≡ true → P (refuse K 10 (erasing K i (suc n) owed) lent))
      → (is_short lent ≡ false → ltb n 127 ≡ true → P (clear_step K (suc n) owed (erasing K i (suc n) owed) lent))
      → (is_short lent ≡ false → ltb n 127 ≡ false → P (end_step K owed (erasing K i (suc n) owed) lent))
      → P (on_step K (erasing K i (suc n) owed) m lent)
  unfolding on_step step_on entry_check_of entry_check erasing clears_at
  pending_step {i} {n} P owed lent h short next last = rw (pending_sound owed h) (go (is_short lent) refl)
    where
      s : Board K
      s = erasing K i (suc n) owed

      go : (t : Bool) → is_short lent ≡ t → P (step_on K (entry_check t true true) s lent)
      go true e = short e
      go false e = step-clears_or_ends K P (suc n) owed s lent (next e) (last e)
