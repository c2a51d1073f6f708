-- The digits but the last are those of the tenth part, written by the call, and the last one goes behind them.
use Rattle.std.proofs.Common.{arith, length-set}
use Rattle.transcript.proofs.DecimalLaws.{none_written, one_written, more_written}
use Rattle.transcript.proofs.decimal.+put_digits.Goals as goal

pub returns-then-most-eq0 : goal.returns-then-most-eq0
returns-then-most-eq0 t c = (search none_written, omega arith)

pub returns-then-n-lt10 : goal.returns-then-n-lt10
returns-then-n-lt10 t c = (search one_written, omega arith)

pub shape_of-out : goal.shape_of-out
shape_of-out t c = simp length-set (omega arith)

pub returns : goal.returns
returns t c = (search more_written, omega arith)
