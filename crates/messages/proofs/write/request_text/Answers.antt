-- The callee of each case writes the text of that case.
use Prim.Native.Nat.{◌≤◌}
use native.Mathlib.Nat.{min-le_right}
use native.Mathlib.Omega.{arith}
use lib.ListN.{length, length-take}
use Rattle.wire.specs.Digits.{octets_of}
use Rattle.wire.proofs.DigitLaws.{hex_length}
use Rattle.messages.specs.Text.{date_text, request_type, request_text}
use Rattle.messages.proofs.write.request_text.Goals as goal

pub returns-in-Get-clause-text : goal.returns-in-Get-clause-text
unfolding request_type request_text
returns-in-Get-clause-text c = rw c.in-Get.is c.put_get.ensures

pub returns-in-Set-clause-text : goal.returns-in-Set-clause-text
unfolding request_type request_text
returns-in-Set-clause-text c = rw c.in-Set.is c.put_set.ensures

pub returns-in-PowerRead-clause-text : goal.returns-in-PowerRead-clause-text
unfolding request_type request_text
returns-in-PowerRead-clause-text c = rw c.in-PowerRead.is c.put_name.ensures

pub returns-in-PowerControl-clause-text : goal.returns-in-PowerControl-clause-text
unfolding request_type request_text
returns-in-PowerControl-clause-text c = rw c.in-PowerControl.is c.put_power_control.ensures

pub returns-in-DateRead-clause-text : goal.returns-in-DateRead-clause-text
unfolding request_type request_text
returns-in-DateRead-clause-text c = rw c.in-DateRead.is c.put_name-in-DateRead.ensures

pub returns-in-DateWrite-clause-text : goal.returns-in-DateWrite-clause-text
unfolding request_type request_text
returns-in-DateWrite-clause-text c = rw c.in-DateWrite.is c.put_named_date.ensures

pub returns-in-ItemRead-clause-text : goal.returns-in-ItemRead-clause-text
unfolding request_type request_text
returns-in-ItemRead-clause-text c = rw (c.in-ItemRead.is, ← c.item_read_name.ensures) c.put_name-in-ItemRead.ensures

pub returns-in-TagWrite-clause-text : goal.returns-in-TagWrite-clause-text
unfolding request_type request_text
returns-in-TagWrite-clause-text c = rw c.in-TagWrite.is c.put_named_octets.ensures

pub returns-in-Schedule-clause-text : goal.returns-in-Schedule-clause-text
unfolding request_type request_text
returns-in-Schedule-clause-text c = rw c.in-Schedule.is c.put_schedule.ensures.text

pub returns-in-DateWrite-clause-length : goal.returns-in-DateWrite-clause-length
unfolding date_text
returns-in-DateWrite-clause-length c = (omega arith, omega arith)

pub returns-in-TagWrite-clause-length : goal.returns-in-TagWrite-clause-length
returns-in-TagWrite-clause-length c =
    let tag = c.in-TagWrite.tag in
    let counted : length (octets_of tag) ≤ 16 = rw length-take (omega (arith, min-le_right tag.count (length tag.bytes))) in
    let digits = hex_length (octets_of tag) in
    (omega arith, omega arith)
