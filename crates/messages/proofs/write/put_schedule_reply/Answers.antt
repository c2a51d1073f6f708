-- The callee of each case writes the text of that case.
use native.Mathlib.Omega.{arith}
use Rattle.wire.proofs.DigitLaws.{hex_length}
use Rattle.messages.specs.Text.{schedule_reply_text}
use Rattle.messages.proofs.write.put_schedule_reply.Goals as goal

pub returns-in-Read-clause-text : goal.returns-in-Read-clause-text
unfolding schedule_reply_text
returns-in-Read-clause-text c = rw c.in-Read.is c.put_named_bytes.ensures

pub returns-in-Written-clause-text : goal.returns-in-Written-clause-text
unfolding schedule_reply_text
returns-in-Written-clause-text c = rw c.in-Written.is c.put_status_and_bytes.ensures

pub returns-in-Enabled-clause-text : goal.returns-in-Enabled-clause-text
unfolding schedule_reply_text
returns-in-Enabled-clause-text c = rw c.in-Enabled.is c.put_schedule_enable_reply.ensures

pub returns-in-Read-clause-length : goal.returns-in-Read-clause-length
returns-in-Read-clause-length c =
    let digits = hex_length c.in-Read.numbers in
    (omega arith, omega arith)

pub returns-in-Written-clause-length : goal.returns-in-Written-clause-length
returns-in-Written-clause-length c =
    let digits = hex_length c.in-Written.numbers in
    (omega arith, omega arith)
