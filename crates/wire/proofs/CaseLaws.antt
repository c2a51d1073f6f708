-- Digits that come in either case: each has its digit's value, so that numbers and bytes are read from them as from the digits that are written.
use Prim.Native.Nat.{ℕ, zero, suc, ◌+◌, ◌≤◌}
use mathlib.Core.List.{List, [], ◌∷◌, ◌++◌}
use mathlib.Core.Logic.{⊎_elim, inl}
use mathlib.Core.Option.{some}
use mathlib.Core.Path.{◌≡◌, refl, ap}
use native.Mathlib.Omega.{arith}
use borrow.Author.Tests.{le-leb, lt-leb}
use lib.Dec.{leb}
use lib.ListN.{length, get_or, drop}
use Rattle.wire.proofs.Tests.{and-false}
use Rattle.wire.specs.Digits.{value_of, two_at, four_at, unhex, octets_in, SameDigit, SameDigits}

-- ---- a digit

small_value : (a : ℕ) → 0x41 ≤ a → a ≤ 0x46 → value_of (a + 0x20) ≡ value_of a
unfolding value_of
small_value a h k =
    rw (
      lt-leb (a + 0x20) 0x39 (omega arith),
      and-false (leb 0x30 (a + 0x20)),
      lt-leb (a + 0x20) 0x46 (omega arith),
      and-false (leb 0x41 (a + 0x20)),
      le-leb 0x61 (a + 0x20) (omega arith),
      le-leb (a + 0x20) 0x66 (omega arith),
      lt-leb a 0x39 (omega arith),
      and-false (leb 0x30 a),
      le-leb 0x41 a h,
      le-leb a 0x46 k,
    )
    (ap some (omega arith))

pub same-value : (a b : ℕ) → SameDigit a b → value_of b ≡ value_of a
same-value a b same = ⊎_elim (λ e. rw e) (λ s. rw s.2 (small_value a s.0 s.1)) same

-- ---- digits

pub same-itself : (s : List ℕ) → SameDigits s s
unfolding SameDigits
same-itself [] = tt
same-itself (a ∷ s) = (inl refl, same-itself s)

pub same_length : (s t : List ℕ) → SameDigits s t → length t ≡ length s
unfolding SameDigits
same_length [] [] h = refl
same_length [] (b ∷ t) h = absurd h
same_length (a ∷ s) [] h = absurd h
same_length (a ∷ s) (b ∷ t) h = ap suc (same_length s t h.1)

pub same-append : (s t u v : List ℕ) → SameDigits s t → SameDigits u v → SameDigits (s ++ u) (t ++ v)
unfolding SameDigits
same-append [] [] u v h k = k
same-append [] (b ∷ t) u v h k = absurd h
same-append (a ∷ s) [] u v h k = absurd h
same-append (a ∷ s) (b ∷ t) u v h k = (h.0, same-append s t u v h.1 k)

-- behind the same bytes
pub same-behind : (name s t : List ℕ) → SameDigits (name ++ s) (name ++ t) → SameDigits s t
unfolding SameDigits
same-behind [] s t h = h
same-behind (a ∷ name) s t h = same-behind name s t h.1

pub same_drop : (n : ℕ) (s t : List ℕ) → SameDigits s t → SameDigits (drop n s) (drop n t)
unfolding SameDigits
same_drop zero s t h = h
same_drop (suc n) [] [] h = tt
same_drop (suc n) [] (b ∷ t) h = absurd h
same_drop (suc n) (a ∷ s) [] h = absurd h
same_drop (suc n) (a ∷ s) (b ∷ t) h = same_drop n s t h.1

value-at : (s t : List ℕ) (k : ℕ) → SameDigits s t → value_of (get_or t k 0) ≡ value_of (get_or s k 0)
unfolding SameDigits
value-at [] [] k h = refl
value-at [] (b ∷ t) k h = absurd h
value-at (a ∷ s) [] k h = absurd h
value-at (a ∷ s) (b ∷ t) zero h = same-value a b h.0
value-at (a ∷ s) (b ∷ t) (suc k) h = value-at s t k h.1

module _ (s t : List ℕ) (h : SameDigits s t) where
  pub same-two : (at : ℕ) → two_at t at ≡ two_at s at
  unfolding two_at
  same-two at = rw (value-at s t at h, value-at s t (at + 1) h)

  pub same-four : (at : ℕ) → four_at t at ≡ four_at s at
  unfolding four_at
  same-four at = rw (same-two at, same-two (at + 2))

same-unhex : (s t : List ℕ) → SameDigits s t → unhex t ≡ unhex s
unfolding SameDigits unhex
same-unhex [] [] h = refl
same-unhex [] (b ∷ t) h = absurd h
same-unhex (a ∷ s) [] h = absurd h
same-unhex (a ∷ []) (b ∷ []) h = refl
same-unhex (a ∷ []) (b ∷ c ∷ t) h = absurd h.1
same-unhex (a ∷ d ∷ s) (b ∷ []) h = absurd h.1
same-unhex (a ∷ d ∷ s) (b ∷ c ∷ t) h = rw (same-value a b h.0, same-value d c h.1.0, same-unhex s t h.1.1)

pub same-octets : (s t : List ℕ) → SameDigits s t → octets_in t ≡ octets_in s
unfolding octets_in
same-octets s t h = rw (same_length s t h, same-unhex s t h)
