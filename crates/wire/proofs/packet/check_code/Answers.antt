-- The bytes from index 1 to the check code are as many as the size says.
use mathlib.Core.List.{List}
use mathlib.Core.Path.{◌≡◌, ◌∙◌}
use Prim.Native.Nat.{ℕ, ◌-◌}
use native.Mathlib.Omega.{arith}
use lib.ListN.{length, drop, take}
use Rattle.wire.specs.Packet.{xor_of, size, check_code}
use Rattle.wire.specs.Inner.{Whole}
use Rattle.wire.proofs.packet.check_code.Goals as goal

to_the_code : (p : List ℕ) → Whole p → (x : ℕ) → x ≡ xor_of (take (length p - 2 - 1) (drop 1 p)) → x ≡ check_code p
unfolding check_code
to_the_code p whole x e =
    let n : length p - 2 - 1 ≡ size p - 3 = omega arith in
    e ∙ rw n

pub returns : goal.returns
returns c = search to_the_code
