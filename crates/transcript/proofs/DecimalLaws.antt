-- A number's digits: one alone, or the last one behind those of its tenth part; and how many there are.
use Prim.Native.Nat.{ℕ, zero, suc, ◌+◌, ◌-◌, ◌/◌, ◌%◌, ◌≤◌, ◌<◌}
use mathlib.Core.List.{List, [], ◌∷◌, ◌++◌}
use mathlib.Core.Path.{◌≡◌, refl}
use native.Mathlib.Omega.{arith}
use native.Mathlib.Numerals.{sub-one}
use native.Mathlib.Nat.{add_comm}
use borrow.Author.Tests.{lt-ltb, le-ltb}
use lib.Dec.{ltb}
use lib.ListN.{length, set, length-append}
use Rattle.wire.proofs.Tests.{cond-by}
use Rattle.transcript.specs.Transcript.{digits_within}
use Rattle.transcript.specs.Inner.{Put}
use Rattle.transcript.proofs.PutLaws.{put-none, put_one, put_last}

pub digits-few : (most n : ℕ) → length (digits_within most n) ≤ most
unfolding digits_within
digits-few zero n = omega arith
digits-few (suc most) n =
    cond-by (λ (s : List ℕ). length s ≤ suc most) (ltb n 10) _ _ (λ _. omega arith)
    (λ _. let few = digits-few most (n / 10) in rw length-append (omega arith))

-- the place behind a number
pub number-few : (most n at r : ℕ) → r ≡ at + length (digits_within most n) → r ≤ at + most
number-few most n at r e = let few = digits-few most n in omega arith

one-digit : (most n : ℕ) → (most ≡ 0 → ⊥) → n < 10 → digits_within most n ≡ (n % 10 + 0x30) ∷ []
unfolding digits_within
one-digit zero n some h = absurd (some refl)
one-digit (suc most) n some h = rw (lt-ltb n 10 h, add_comm 0x30 (n % 10))

more_digits : (most n : ℕ) → (most ≡ 0 → ⊥) → 10 ≤ n → digits_within most n ≡ digits_within (most - 1) (n / 10) ++ ((n % 10 + 0x30) ∷ [])
unfolding digits_within
more_digits zero n some h = absurd (some refl)
more_digits (suc most) n some h = rw (le-ltb n 10 h, add_comm 0x30 (n % 10), sub-one (suc most))

-- written from a place on
pub none_written : (o : List ℕ) (at most n : ℕ) → most ≡ 0 → Put o at (digits_within most n) at o
unfolding digits_within
none_written o at most n e = put-none o at (digits_within most n) (rw e)

module _ (o : List ℕ) (at most n : ℕ) (room : at + most ≤ length o) (some : most ≡ 0 → ⊥) where
  pub one_written : n < 10 → Put o at (digits_within most n) (at + 1) (set o at (n % 10 + 0x30))
  one_written h = rw (one-digit most n some h) (refl, put_one o at (n % 10 + 0x30) (omega arith))

  pub more_written : (end : ℕ) (m : List ℕ) → 10 ≤ n → Put o at (digits_within (most - 1) (n / 10)) end m
      → Put o at (digits_within most n) (end + 1) (set m end (n % 10 + 0x30))
  more_written end m h put =
      let few = digits-few (most - 1) (n / 10) in
      rw (more_digits most n some h) (put_last o at (n % 10 + 0x30) (digits_within (most - 1) (n / 10)) end m (omega arith) put)
