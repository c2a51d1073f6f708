-- The callee of each case writes the text of that case.
use native.Mathlib.Omega.{arith}
use Rattle.wire.proofs.DigitLaws.{hex_length}
use Rattle.messages.specs.Text.{schedule_text}
use Rattle.messages.proofs.write.put_schedule.Goals as goal

pub returns-in-Read-clause-text : goal.returns-in-Read-clause-text
unfolding schedule_text
returns-in-Read-clause-text c = rw c.in-Read.is c.put_schedule_read.ensures

pub returns-in-Write-clause-text : goal.returns-in-Write-clause-text
unfolding schedule_text
returns-in-Write-clause-text c = rw c.in-Write.is c.put_named_bytes.ensures

pub returns-in-Enable-clause-text : goal.returns-in-Enable-clause-text
unfolding schedule_text
returns-in-Enable-clause-text c = rw c.in-Enable.is c.put_schedule_enable.ensures

pub returns-in-Write-clause-length : goal.returns-in-Write-clause-length
returns-in-Write-clause-length c =
    let digits = hex_length c.in-Write.numbers in
    (omega arith, omega arith)
