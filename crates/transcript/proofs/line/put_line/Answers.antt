-- Number, word, data and the end of the line, each behind the one before.
use native.Mathlib.Omega.{arith}
use lib.ListN.{length-set}
use Rattle.transcript.proofs.LineLaws.{untold-count, untold-over, line_count, line_over}
use Rattle.transcript.proofs.line.put_line.Goals as goal

pub returns-then-not-is_told : goal.returns-then-not-is_told
returns-then-not-is_told c = (search untold-count, search untold-over)

pub shape_of-out : goal.shape_of-out
shape_of-out c = simp length-set (omega arith)

pub returns : goal.returns
returns c = (search line_count, search line_over)
