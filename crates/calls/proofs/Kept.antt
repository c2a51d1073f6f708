-- Every call, step and start leaves a sound board: a sound board is at rest on a store in range, or has an erase pending.
use mathlib.Core.Path.{◌≡◌, refl, sym, ◌∙◌, subst}
use mathlib.Core.Bool.{true, ◌&&◌, and-eq-true_iff}
use mathlib.Core.List.{List, []}
use mathlib.Core.Logic.{◌⊎◌, inl, inr}
use Prim.Native.Nat.{ℕ, zero, suc, ◌≤◌}
use native.Mathlib.Omega.{arith}
use lib.ListN.{length}
use lib.Dec.{leb, eqb}
use borrow.Author.Tests.{eq-eqb, ne_eqb, eqb-true, leb-true, ltb-true, ltb-false}
use Rattle.calls.specs.Board.{Identity, Erase, idle, pending, board, after}
use Rattle.calls.specs.Kind.{Kind}
use Rattle.calls.specs.Calls.{mark, erase_mark, first_bytes, same, Board, Left, refuse, at_rest, erasing, is_sound_as, is_sound, on_call, clear_step, end_step, on_step, on_start}
use Rattle.calls.proofs.Demand.{wiped}
use Rattle.calls.proofs.FirstBytes.{same-eq}
use Rattle.calls.proofs.Steps.{Called, refuses, does, Stepped, clears, called, stepped}
use Rattle.calls.proofs.Laws.{Startable, Kept, Settles, Begins, Laws}
use Rattle.calls.proofs.Pending.{Pending, pending-first, pending_again, pending_next, pending_last, pending_sound, pending_step, pending_start}

-- what a sound board is
pub data Sound (K : Kind) (s : Board K) (m : List ℕ) : Type 0 where
  resting : s.erase ≡ idle → Startable K s.ident m → Sound K s m
  clearing : (n : ℕ) (owed : K.Owed) → s ≡ erasing K s.ident (suc n) owed → Pending K s.ident n m → Sound K s m

-- a start gives a board that is sound on the store, which it leaves as it was
pub record Starts (K : Kind) (i : Identity) (m : List ℕ) : Type 0 where
  pub state : Board K
  pub gives : on_start K i m ≡ board state []
  pub then_sound : is_sound K state m ≡ true

module _ {K : Kind} where
  pub idle-startable : {s : Board K} {m : List ℕ} → s.erase ≡ idle → Sound K s m → Startable K s.ident m
  unfolding erasing
  idle-startable q (resting r a) = a
  idle-startable q (clearing n owed is h) = let z : ◌≡◌ {A = ℕ} 0 1 = cc in absurd (omega arith)

  pub begins-pending : {c : K.Call} {s : Board K} {m lent : List ℕ} {o : Left K} → Startable K s.ident m → Begins K c s lent o
      → Pending K s.ident 0 (after o m)
  begins-pending a b = rw b.stores_is (pending-first a)

module _ {K : Kind} (L : Laws K) where
  -- ---- a sound board

  sound-as : (s : Board K) (m : List ℕ) (e : Erase K.Owed) → s.erase ≡ e → K.is_identity s.ident ≡ true → length m ≡ 128
      → is_sound_as K e s.held m ≡ true → Sound K s m
  unfolding is_sound_as erasing
  sound-as s m idle q named size h =
      let x = (and-eq-true_iff (eqb (mark m) (mark K.unused) && K.in_range m) (K.is_proper s.held)).0 h in
      let y = (and-eq-true_iff (eqb (mark m) (mark K.unused)) (K.in_range m)).0 x.0 in
      resting q (record { named = named; size = size; marked = eqb-true _ _ y.0; ranged = y.1 })
  sound-as s m (pending p owed) q named size h =
      let isMarked = eqb (mark m) erase_mark in
      let is_empty = K.is_nothing s.held in
      let x = (and-eq-true_iff (isMarked && is_empty && leb 1 p && leb p 128) (same (first_bytes p m) (first_bytes p K.unused))).0 h in
      let y = (and-eq-true_iff (isMarked && is_empty && leb 1 p) (leb p 128)).0 x.0 in
      let z = (and-eq-true_iff (isMarked && is_empty) (leb 1 p)).0 y.0 in
      let w = (and-eq-true_iff isMarked is_empty).0 z.0 in
      go p q (leb-true 1 p z.1) (leb-true p 128 y.1) (eqb-true _ _ w.0) (L.nothing_is s.held w.1) (same-eq _ _ x.1)
    where
      go : (p : ℕ) → s.erase ≡ pending p owed → 1 ≤ p → p ≤ 128 → mark m ≡ erase_mark → s.held ≡ K.nothing
          → first_bytes p m ≡ first_bytes p K.unused → Sound K s m
      go zero q low high marked empty cleared = absurd (omega arith)
      go (suc n) q low high marked empty cleared =
          clearing n owed (λ j. record { ident = s.ident; held = empty j; erase = q j })
          (record { named = named; below = high; size = size; marked = marked; cleared = cleared })

  pub sound-view : (s : Board K) (m : List ℕ) → is_sound K s m ≡ true → Sound K s m
  unfolding is_sound
  sound-view s m h =
      let x = (and-eq-true_iff (K.is_identity s.ident && eqb (length m) 128) (is_sound_as K s.erase s.held m)).0 h in
      let y = (and-eq-true_iff (K.is_identity s.ident) (eqb (length m) 128)).0 x.0 in
      sound-as s m s.erase refl y.0 (eqb-true _ _ y.1) x.1

  pub rest-sound : {i : Identity} {m : List ℕ} → Startable K i m → is_sound K (at_rest K i) m ≡ true
  unfolding is_sound is_sound_as at_rest
  rest-sound h = simp (h.named, h.ranged, L.nothing_proper, eq-eqb _ _ h.size, eq-eqb _ _ h.marked)

  pub unused-startable : {i : Identity} → K.is_identity i ≡ true → Startable K i K.unused
  unused-startable h = record { named = h; size = L.size; marked = refl; ranged = L.ranged }

  -- ---- a call

  refusal_keeps : (n : ℕ) (s : Board K) (m lent : List ℕ) → is_sound K s m ≡ true → Kept K m (refuse K n s lent)
  unfolding refuse
  refusal_keeps n s m lent h = h

  pub act_keeps : {c : K.Call} {s : Board K} {m lent : List ℕ} {o : Left K} → Startable K s.ident m → Settles K m o ⊎ Begins K c s lent o → Kept K m o
  act_keeps a (inl x) = x.kept
  act_keeps {c} {s} a (inr b) = rw b.state_is (pending_sound L (K.owes c s) (begins-pending a b))

  pub call-keeps : (c : K.Call) (s : Board K) (m lent : List ℕ) → is_sound K s m ≡ true → Kept K m (on_call K c s m lent)
  call-keeps c s m lent h = go (called K c s m lent)
    where
      go : Called K c s m lent (on_call K c s m lent) → Kept K m (on_call K c s m lent)
      go (refuses n e) = rw e (refusal_keeps n s m lent h)
      go (does q k e) = rw e (act_keeps (idle-startable q (sound-view s m h)) (L.acts c s m lent q h))

  -- ---- a step

  pending-step_keeps : {i : Identity} {n : ℕ} {m : List ℕ} (owed : K.Owed) (lent : List ℕ) → Pending K i n m → Kept K m (on_step K (erasing K i (suc n) owed) m lent)
  unfolding wiped clear_step end_step erasing
  pending-step_keeps {i} {n} {m} owed lent h =
      pending_step L (Kept K m) owed lent h
      (λ t. refusal_keeps 10 (erasing K i (suc n) owed) m lent (pending_sound L owed h))
      (λ t u. pending_sound L owed (pending_next L h (ltb-true n 127 u)))
      (λ t u. rw (pending_last L h (ltb-false n 127 u)) (rest-sound (unused-startable h.named)))

  pub step_keeps : (s : Board K) (m lent : List ℕ) → is_sound K s m ≡ true → Kept K m (on_step K s m lent)
  step_keeps s m lent h = go (sound-view s m h) (stepped K s m lent)
    where
      go : Sound K s m → Stepped K s m lent (on_step K s m lent) → Kept K m (on_step K s m lent)
      go (clearing n owed is a) x = subst (λ (b : Board K). Kept K m (on_step K b m lent)) (sym is) (pending-step_keeps owed lent a)
      go (resting q a) (refuses n e) = rw e (refusal_keeps n s m lent h)
      go (resting q a) (clears p owed r k e) = cc

  -- ---- a start

  pub rest-start : {i : Identity} {m : List ℕ} → Startable K i m → on_start K i m ≡ board (at_rest K i) []
  unfolding on_start
  rest-start {i} {m} a =
      simp (eq-eqb _ _ a.size, ne_eqb (mark m) erase_mark (λ e. L.other_mark (sym a.marked ∙ e))) (L.starts i m a)

  pub start_sound : (i : Identity) (s : Board K) (m : List ℕ) → K.is_identity i ≡ true → is_sound K s m ≡ true → Starts K i m
  start_sound i s m k h = go (sound-view s m h)
    where
      go : Sound K s m → Starts K i m
      go (resting q a) =
          let b : Startable K i m = record { named = k; size = a.size; marked = a.marked; ranged = a.ranged } in
          record { state = at_rest K i; gives = rest-start b; then_sound = rest-sound b }
      go (clearing n owed is a) =
          let b : Pending K i n m = record { named = k; below = a.below; size = a.size; marked = a.marked; cleared = a.cleared } in
          record { state = erasing K i 1 K.none_owed; gives = pending_start b; then_sound = pending_sound L K.none_owed (pending_again b) }
