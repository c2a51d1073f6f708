-- What the two calls of `value_of` tell is what the definition joins.
use mathlib.Core.Path.{sym}
use native.Mathlib.Omega.{arith}
use Rattle.wire.specs.Digits.{two_at}
use Rattle.wire.proofs.DigitLaws.{digit_below}
use Rattle.wire.proofs.digits.two_at.Goals as goal

pub returns-in_err-high : goal.returns-in_err-high
unfolding two_at
returns-in_err-high c = rw (c.from_residual.ensures, ← c.in_err-high.ensures)

pub returns-in_err-low : goal.returns-in_err-low
unfolding two_at
returns-in_err-low c = rw (c.from_residual-in_err-low.ensures, ← c.in_ok-high.ensures, ← c.in_err-low.ensures)

pub overflow_mul-result : goal.overflow_mul-result
overflow_mul-result c = omega (arith, digit_below _ (sym c.in_ok-high.ensures))

pub overflow_add-result : goal.overflow_add-result
overflow_add-result c = omega (arith, digit_below _ (sym c.in_ok-high.ensures), digit_below _ (sym c.in_ok-low.ensures))

pub returns : goal.returns
unfolding two_at
returns c = rw (← c.in_ok-high.ensures, ← c.in_ok-low.ensures)
