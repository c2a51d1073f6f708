-- `bitfield::put` meets its contract: a part of one byte is stored, or the parts of two.
use mathlib.Core.List.{List}
use mathlib.Core.Path.{◌≡◌, sym}
use Prim.Native.Nat.{ℕ, ◌+◌, ◌-◌, ◌/◌, ◌%◌, ◌^◌, ◌≤◌, ◌<◌}
use native.Mathlib.Nat.{mod-lt}
use native.Mathlib.Omega.{arith}
use borrow.Author.Rules.{rules}
use lib.ListN.{get_or, set, length-set}
use lib.Pow.{pow_pos}
use Rattle.bitfield.specs.Field.{Inside, put_field, with_part}
use Rattle.bitfield.proofs.Within.{put-within, put-over, high_lt}
use Rattle.bitfield.proofs.Bits.{positive}
use Rattle.bitfield.proofs.put.Goals as goal

low_fits : (p k : ℕ) → p ≡ 2 ^ k → (v : ℕ) → v % p < 2 ^ k
low_fits p k power v = rw power (mod-lt v (pow_pos k))

module _ (s : List ℕ) (at width v : ℕ) (inside : Inside s at width) (small : v < 2 ^ width) where
  in_one : at % 8 + width ≤ 8 → (x : ℕ) → x ≡ with_part (get_or s (at / 8) 0) (8 - at % 8 - width) width v
      → set s (at / 8) x ≡ put_field s at width v
  in_one few x e = rw e (sym (put-within s at width (8 - at % 8 - width) v (omega arith) small))

  abbrev over : ℕ
  over = at % 8 + width - 8

  module _ (more : 8 < at % 8 + width) (p : ℕ) (power : p ≡ 2 ^ over) where
    high_fits : v / p < 2 ^ (8 - at % 8)
    high_fits = rw power (high_lt v width (8 - at % 8) over (omega arith) small)

    in_two : (x y : ℕ) → x ≡ with_part (get_or s (at / 8) 0) 0 (8 - at % 8) (v / p)
        → y ≡ with_part (get_or (set s (at / 8) x) (at / 8 + 1) 0) (8 - over) over (v % p)
        → set (set s (at / 8) x) (at / 8 + 1) y ≡ put_field s at width v
    in_two x y e f =
        rw (f, e, power) (sym (put-over s at width (8 - at % 8) over (omega arith) (omega arith) (omega arith) v small))

pub returns-then-before-width-le8 : goal.returns-then-before-width-le8
returns-then-before-width-le8 c = search in_one

pub nonzero_div-value : goal.nonzero_div-value
nonzero_div-value c = search positive

pub with_part-requires-2 : goal.with_part-requires-2
with_part-requires-2 c = (search rules, search high_fits)

pub bounds-s-a-4 : goal.bounds-s-a-4
bounds-s-a-4 c = simp length-set (omega arith)

pub nonzero_rem-value : goal.nonzero_rem-value
nonzero_rem-value c = search positive

pub with_part-requires-3 : goal.with_part-requires-3
with_part-requires-3 c = (omega arith, search low_fits)

pub bounds-s-a-5 : goal.bounds-s-a-5
bounds-s-a-5 c = simp length-set (omega arith)

pub returns : goal.returns
returns c = search in_two
