-- Each test on the way is one of the definition's, in its order; a digit is no less than what is taken from it.
use borrow.Author.Tests.{leb-true}
use mathlib.Core.Bool.{Bool, true, ◌&&◌}
use mathlib.Core.Path.{◌≡◌}
use Prim.Native.Nat.{ℕ, ◌≤◌}
use native.Mathlib.Omega.{arith}
use borrow.Author.Rules.{rules}
use lib.Dec.{leb}
use Rattle.wire.specs.Digits.{value_of}
use Rattle.wire.proofs.Tests.{both}
use Rattle.wire.proofs.digits.value_of.Goals as goal

-- what is taken from a byte is no more than the least byte of its range
no_less : (base least b : ℕ) (other : Bool) → (leb least b && other) ≡ true → base ≤ least → base ≤ b
no_less base least b other t h = omega (arith, leb-true least b (both (leb least b) other t).0)

pub overflow_sub-result : goal.overflow_sub-result
overflow_sub-result c = search (no_less, rules)

pub returns-then-b : goal.returns-then-b
unfolding value_of
returns-then-b c = rw c.if-b.true

pub overflow_sub-result-then-b-2 : goal.overflow_sub-result-then-b-2
overflow_sub-result-then-b-2 c = search (no_less, rules)

pub returns-then-b-2 : goal.returns-then-b-2
unfolding value_of
returns-then-b-2 c = rw (c.if-b.false, c.if-b-2.true)

pub overflow_sub-result-then-b-3 : goal.overflow_sub-result-then-b-3
overflow_sub-result-then-b-3 c = search (no_less, rules)

pub returns-then-b-3 : goal.returns-then-b-3
unfolding value_of
returns-then-b-3 c = rw (c.if-b.false, c.if-b-2.false, c.if-b-3.true)

pub returns : goal.returns
unfolding value_of
returns c = rw (c.if-b.false, c.if-b-2.false, c.if-b-3.false)
