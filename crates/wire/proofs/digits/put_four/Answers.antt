-- The low half's two digits go right behind the high half's.
use mathlib.Core.List.{List}
use mathlib.Core.Path.{◌≡◌, refl, ◌∙◌}
use Prim.Native.Nat.{ℕ, ◌+◌, ◌≤◌, ◌/◌, ◌%◌}
use native.Mathlib.Omega.{arith}
use lib.ListN.{length}
use lib.Seq.{paste}
use Rattle.wire.specs.Digits.{two, four}
use Rattle.wire.proofs.DigitLaws.{paste_more}
use Rattle.wire.proofs.digits.put_four.Goals as goal

four-digits : (o : List ℕ) (at n : ℕ) (o₁ o₂ : List ℕ)
    → o₂ ≡ paste o₁ (at + 2) (two (n % 256)) 2 → o₁ ≡ paste o at (two (n / 256)) 2
    → at + 4 ≤ length o → o₂ ≡ paste o at (four n) 4
four-digits o at n o₁ o₂ low high room =
    low ∙ rw high (paste_more o at (four n) 2 (two (n % 256)) (omega arith) (omega arith) refl)

pub returns : goal.returns
returns c = search four-digits
