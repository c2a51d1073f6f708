-- What the two calls of `two_at` tell is what the definition joins.
use Rattle.wire.specs.Digits.{four_at}
use Rattle.wire.proofs.digits.four_at.Goals as goal

pub returns-in_err-high : goal.returns-in_err-high
unfolding four_at
returns-in_err-high c = rw (c.from_residual.ensures, ← c.in_err-high.ensures)

pub returns-in_err-low : goal.returns-in_err-low
unfolding four_at
returns-in_err-low c = rw (c.from_residual-in_err-low.ensures, ← c.in_ok-high.ensures, ← c.in_err-low.ensures)

pub returns : goal.returns
unfolding four_at
returns c = rw (← c.in_ok-high.ensures, ← c.in_ok-low.ensures)
