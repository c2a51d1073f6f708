-- The callee of each case writes the text of that case.
use Prim.Native.Nat.{◌≤◌}
use native.Mathlib.Nat.{min-le_left}
use native.Mathlib.Omega.{arith}
use lib.ListN.{length, length-append, length-take}
use Rattle.wire.specs.Digits.{hex_of, octets_of}
use Rattle.wire.specs.declared.digits.Octets.{Octets}
use Rattle.wire.proofs.DigitLaws.{hex_length}
use Rattle.messages.specs.declared.message.Item.{Item}
use mathlib.Core.Path.{◌≡◌, refl}
use Rattle.wire.specs.Packet.{type_b}
use Rattle.messages.specs.View.{date_answer_of}
use Rattle.messages.specs.declared.message.DateAnswer.{DateAnswer}
use Rattle.messages.specs.Text.{date_text, item_reply_name, parameter_text, reply_type, reply_text}
use Rattle.messages.proofs.write.reply_text.Goals as goal

date-type : (a : DateAnswer) → reply_type (date_answer_of a) ≡ type_b
unfolding reply_type
date-type (DateAnswer.Read d) = refl
date-type (DateAnswer.Written o d) = refl

pub returns-in-Null-clause-text : goal.returns-in-Null-clause-text
unfolding reply_type reply_text
returns-in-Null-clause-text c = rw c.in-Null.is c.put_name.ensures

pub returns-in-Got-clause-text : goal.returns-in-Got-clause-text
unfolding reply_type reply_text
returns-in-Got-clause-text c = rw c.in-Got.is c.put_parameter.ensures

pub returns-in-Set-clause-text : goal.returns-in-Set-clause-text
unfolding reply_type reply_text
returns-in-Set-clause-text c = rw c.in-Set.is c.put_parameter-in-Set.ensures

pub returns-in-PowerStatus-clause-text : goal.returns-in-PowerStatus-clause-text
unfolding reply_type reply_text
returns-in-PowerStatus-clause-text c = rw c.in-PowerStatus.is c.put_power_read_reply.ensures

pub returns-in-PowerControl-clause-text : goal.returns-in-PowerControl-clause-text
unfolding reply_type reply_text
returns-in-PowerControl-clause-text c = rw c.in-PowerControl.is c.put_power_control_reply.ensures

pub returns-in-Date-clause-text : goal.returns-in-Date-clause-text
unfolding reply_type reply_text
returns-in-Date-clause-text c = rw (c.in-Date.is, date-type c.in-Date.answer) c.put_date_reply.ensures

pub returns-in-Item-clause-text : goal.returns-in-Item-clause-text
unfolding reply_type reply_text
returns-in-Item-clause-text c = rw (c.in-Item.is, ← c.item_reply_name.ensures) c.put_named_octets.ensures

pub returns-in-TagWritten-clause-text : goal.returns-in-TagWritten-clause-text
unfolding reply_type reply_text
returns-in-TagWritten-clause-text c = rw c.in-TagWritten.is c.put_status_and_bytes.ensures

pub returns-in-Schedule-clause-text : goal.returns-in-Schedule-clause-text
unfolding reply_type reply_text
returns-in-Schedule-clause-text c = rw c.in-Schedule.is c.put_schedule_reply.ensures.text

pub returns-in-Got-clause-length : goal.returns-in-Got-clause-length
unfolding parameter_text
returns-in-Got-clause-length c = (omega arith, omega arith)

pub returns-in-Set-clause-length : goal.returns-in-Set-clause-length
unfolding parameter_text
returns-in-Set-clause-length c = (omega arith, omega arith)

date-length : (a : DateAnswer) → (2 ≤ length (reply_text (date_answer_of a))) × (length (reply_text (date_answer_of a)) ≤ 38)
unfolding reply_text date_text
date-length (DateAnswer.Read d) = (omega arith, omega arith)
date-length (DateAnswer.Written o d) = (omega arith, omega arith)

pub returns-in-Date-clause-length : goal.returns-in-Date-clause-length
returns-in-Date-clause-length c = let counted = date-length c.in-Date.answer in (omega arith, omega arith)

few_octets : (o : Octets) → o.count ≤ 16 → length (octets_of o) ≤ 16
few_octets o h = rw length-take (omega (arith, min-le_left o.count (length o.bytes)))

name-length : (i : Item) → length (item_reply_name i) ≡ 4
name-length Item.Serial = refl
name-length Item.Model = refl
name-length Item.Tag = refl
name-length Item.FormerTag = refl

pub returns-in-Item-clause-length : goal.returns-in-Item-clause-length
returns-in-Item-clause-length c =
    let held = c.in-Item.octets in
    let few : held.count ≤ 16 = rw c.in-Item.is at c.requires in
    let counted = few_octets held few in
    let digits = hex_length (octets_of held) in
    let name : length c.item_reply_name.result ≡ 4 = rw c.item_reply_name.ensures (name-length c.in-Item.item) in
    let all = length-append c.item_reply_name.result (hex_of (octets_of held)) in
    (omega arith, omega arith)

pub returns-in-TagWritten-clause-length : goal.returns-in-TagWritten-clause-length
returns-in-TagWritten-clause-length c =
    let tag = c.in-TagWritten.tag in
    let few : tag.count ≤ 16 = rw c.in-TagWritten.is at c.requires in
    let counted = few_octets tag few in
    let digits = hex_length (octets_of tag) in
    (omega arith, omega arith)
