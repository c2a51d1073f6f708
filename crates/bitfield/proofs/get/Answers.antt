-- `bitfield::get` meets its contract: a part of one byte, or the parts of two side by side.
use mathlib.Core.List.{List}
use mathlib.Core.Path.{◌≡◌, sym}
use Prim.Native.Nat.{ℕ, ◌+◌, ◌-◌, ◌*◌, ◌/◌, ◌%◌, ◌^◌, ◌≤◌, ◌<◌}
use native.Mathlib.Omega.{arith}
use lib.ListN.{get_or}
use lib.Pow.{pow_mono}
use Rattle.bitfield.specs.Field.{Inside, get_field}
use Rattle.bitfield.proofs.Laws.{get-lt}
use Rattle.bitfield.proofs.Within.{get-within, get-over}
use Rattle.bitfield.proofs.get.Goals as goal

module _ (s : List ℕ) (at width : ℕ) (inside : Inside s at width) where
  in_one : at % 8 + width ≤ 8 → (r : ℕ) → r ≡ get_or s (at / 8) 0 / 2 ^ (8 - at % 8 - width) % 2 ^ width → r ≡ get_field s at width
  in_one few r e = rw e (sym (get-within s at width (8 - at % 8 - width) (omega arith)))

  abbrev over : ℕ
  over = at % 8 + width - 8

  module _ (more : 8 < at % 8 + width) (high low p : ℕ)
      (highs : high ≡ get_or s (at / 8) 0 / 2 ^ 0 % 2 ^ (8 - at % 8))
      (lows : low ≡ get_or s (at / 8 + 1) 0 / 2 ^ (8 - over) % 2 ^ over)
      (power : p ≡ 2 ^ over) where
    in_two : high * p + low ≡ get_field s at width
    in_two = rw (highs, lows, power) (sym (get-over s at width (8 - at % 8) over (omega arith) (omega arith) (omega arith)))

    -- a field of at most 16 bits
    both_fit : high * p + low < 65536
    both_fit =
        let most : width ≤ 16 = omega arith in
        omega (arith, in_two, get-lt s at width, pow_mono most)

    high_fits : high * p < 65536
    high_fits = omega (arith, both_fit)

pub returns-then-before-width-le8 : goal.returns-then-before-width-le8
returns-then-before-width-le8 c = search in_one

pub returns : goal.returns
returns c = search in_two

pub overflow_mul-result : goal.overflow_mul-result
overflow_mul-result c = search high_fits

pub overflow_add-result : goal.overflow_add-result
overflow_add-result c = search both_fit
