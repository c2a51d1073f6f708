-- `bitfield::with_part` meets its contract: what it computes is the definition's number, which is a byte, and no step towards it is larger.
use mathlib.Core.Path.{◌≡◌}
use Prim.Native.Nat.{ℕ, ◌+◌, ◌*◌, ◌/◌, ◌%◌, ◌^◌, ◌≤◌, ◌<◌}
use native.Mathlib.Nat.{mul-le-mul_left}
use native.Mathlib.Omega.{arith}
use Rattle.bitfield.specs.Field.{with_part}
use Rattle.bitfield.proofs.Bits.{with-lt, positive}
use Rattle.bitfield.proofs.with_part.Goals as goal

-- no step is larger than the byte that comes out
module _ (x low width v : ℕ) (within : low + width ≤ 8) (small : v < 2 ^ width) (byte : x < 256)
    (q : ℕ) (power-q : q ≡ 2 ^ width) (p : ℕ) (power-p : p ≡ 2 ^ low) where
  abbrev high : ℕ
  high = x / 2 ^ (low + width) * q + v

  next-byte : high * p + x % p < 256
  unfolding with_part
  next-byte = rw (power-p, power-q) (with-lt x low width v 8 byte within small)

  high_byte : high < 256
  high_byte = omega (arith, next-byte, mul-le-mul_left high (positive p low power-p))

  kept-fits : x / 2 ^ (low + width) * q < 65536
  kept-fits = omega (arith, high_byte)

  high_fits : high < 65536
  high_fits = omega (arith, high_byte)

  high_up_fits : high * p < 65536
  high_up_fits = omega (arith, next-byte)

  next_fits : high * p + x % p < 65536
  next_fits = omega (arith, next-byte)

pub returns : goal.returns
unfolding with_part
returns c = cc

pub overflow_mul-next : goal.overflow_mul-next
overflow_mul-next c = search kept-fits

pub overflow_add-next : goal.overflow_add-next
overflow_add-next c = search high_fits

pub overflow_mul-next-2 : goal.overflow_mul-next-2
overflow_mul-next-2 c = search high_up_fits

pub nonzero_rem-next : goal.nonzero_rem-next
nonzero_rem-next c = search positive

pub overflow_add-next-2 : goal.overflow_add-next-2
overflow_add-next-2 c = search next_fits

pub overflow_cast-result : goal.overflow_cast-result
overflow_cast-result c = search next-byte
