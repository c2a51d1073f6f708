-- The two stores are two turns of a copy of the two digits.
use mathlib.Core.List.{List, [], ◌∷◌}
use mathlib.Core.Path.{◌≡◌, ◌∙◌}
use Prim.Native.Nat.{ℕ, ◌+◌, ◌≤◌, ◌/◌, ◌%◌}
use native.Mathlib.Numerals.{add-one}
use native.Mathlib.Omega.{arith}
use lib.ListN.{length, set, length-set}
use lib.Seq.{paste, paste-suc, set_split, append_snoc}
use Rattle.wire.specs.Digits.{digit_of, two}
use Rattle.wire.proofs.digits.put_two.Goals as goal

two-stored : (o : List ℕ) (at a b : ℕ) → at + 2 ≤ length o → set (set o at a) (at + 1) b ≡ paste o at (a ∷ b ∷ []) 2
two-stored o at a b h =
    let e : set o at a ≡ paste o at (a ∷ b ∷ []) 1 = set_split o at a (omega arith) ∙ rw (add-one, append_snoc) in
    rw e (paste-suc o at (a ∷ b ∷ []) 1 0 (omega arith) (omega arith))

two_digits : (o : List ℕ) (at n a b : ℕ) → a ≡ digit_of (n / 16) → b ≡ digit_of (n % 16) → at + 2 ≤ length o
    → set (set o at a) (at + 1) b ≡ paste o at (two n) 2
two_digits o at n a b high low room = rw (high, low) (two-stored o at _ _ room)

pub bounds-out-at-2 : goal.bounds-out-at-2
bounds-out-at-2 c = simp length-set (omega arith)

pub returns : goal.returns
returns c = search two_digits
