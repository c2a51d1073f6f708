-- `bitfield::two_to` meets its contract: a 1 shifted by at most 8 places stays within 16 bits.
use mathlib.Core.Path.{◌≡◌, ◌∙◌}
use Prim.Native.Nat.{ℕ, ◌*◌, ◌%◌, ◌^◌, ◌≤◌}
use native.Mathlib.Nat.{one-mul}
use native.Mathlib.Omega.{arith}
use lib.Pow.{shl_exact}
use Rattle.bitfield.proofs.two_to.Goals as goal

shifted : (k : ℕ) → k ≤ 8 → 1 * 2 ^ k % 2 ^ 16 ≡ 2 ^ k
shifted k few = shl_exact 1 k 16 (omega arith) (omega arith) ∙ one-mul (2 ^ k)

pub returns : goal.returns
returns c = search shifted
