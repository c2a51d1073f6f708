-- After i turns the first i bytes stand before what the digits left over give, and each turn takes one byte across.
use Prim.Native.Nat.{◌/◌}
use mathlib.Core.Path.{◌≡◌}
use native.Mathlib.Omega.{arith}
use borrow.Author.Tests.{lt-ltb, le-ltb}
use lib.ListN.{length}
use Rattle.wire.specs.Digits.{octets_in}
use Rattle.wire.proofs.DigitLaws.{none-taken, one_more-taken, bad-taken, taken-found, taken-exact, odd-unhex}
use Rattle.wire.proofs.digits.octets_in.Goals as goal

pub returns-then-n-gt32-clause-bytes : goal.returns-then-n-gt32-clause-bytes
unfolding octets_in
returns-then-n-gt32-clause-bytes c = rw (lt-ltb 32 _ c.if-n-gt32.true)

pub returns-then-n-eq1-clause-bytes : goal.returns-then-n-eq1-clause-bytes
unfolding octets_in
returns-then-n-eq1-clause-bytes c = rw (le-ltb 32 _ c.if-n-gt32.false, ← odd-unhex _ c.if-n-eq1.true)

pub loop-i-init : goal.loop-i-init
loop-i-init c = none-taken _

pub loop-i-preserved : goal.loop-i-preserved
loop-i-preserved c = one_more-taken _ _ _ _ c.loop-i.invariant (omega arith) c.if-n-gt32.false c.in_ok-bytes.ensures

pub returns-in_err-bytes-clause-bytes : goal.returns-in_err-bytes-clause-bytes
unfolding octets_in
returns-in_err-bytes-clause-bytes c =
    rw (c.from_residual.ensures, le-ltb 32 _ c.if-n-gt32.false, ← bad-taken _ _ _ c.loop-i.invariant (omega arith) c.in_err-bytes.ensures)

pub returns-clause-bytes : goal.returns-clause-bytes
unfolding octets_in
returns-clause-bytes c =
    let half : c.loop-i.i ≡ length c.args.t.now / 2 = omega arith in
    rw (le-ltb 32 _ c.if-n-gt32.false, ← half) (taken-found _ _ _ c.loop-i.invariant (omega arith))

pub returns-clause-exact : goal.returns-clause-exact
returns-clause-exact c =
    let half : c.loop-i.i ≡ length c.args.t.now / 2 = omega arith in
    rw (← half) (taken-exact _ _ _ c.loop-i.invariant (omega arith))
