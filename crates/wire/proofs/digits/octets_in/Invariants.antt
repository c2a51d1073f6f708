-- After i turns the first i bytes stand before what the digits left over give, and each turn takes one byte across.
use Rattle.wire.proofs.DigitLaws.{Taken}
use Rattle.wire.proofs.digits.octets_in.Given as goal

abbrev pub invariant-loop-i : goal.invariant-loop-i
invariant-loop-i l = Taken l.t l.bytes l.i
