-- The matched case of the answer says what is written.
use native.Mathlib.Omega.{arith}
use Rattle.transcript.proofs.LineLaws.{refusal-put, reply-put, no_data_put}
use Rattle.transcript.proofs.line.put_data.Goals as goal

pub returns-in-Refused : goal.returns-in-Refused
returns-in-Refused c = (search refusal-put, omega arith)

pub returns-in-Reply : goal.returns-in-Reply
returns-in-Reply c = (search reply-put, omega arith)

pub returns-in_default : goal.returns-in_default
returns-in_default c = (search no_data_put, omega arith)
