-- A reply may hold what has a text, so that every such reply is told, and what is read is one.
use mathlib.Core.Path.{◌≡◌}
use mathlib.Core.Bool.{true, ◌||◌}
use mathlib.Core.List.{List}
use mathlib.Core.Logic.{◌⊎◌, inl, inr, ⊎_elim}
use Prim.Native.Nat.{ℕ, ◌+◌, ◌≤◌}
use borrow.Author.Tests.{eqb-true}
use lib.Dec.{eqb}
use Rattle.wire.specs.Packet.{reply_packet}
use Rattle.messages.specs.Message.{Reply, IsReply, IsDate, is_power_mode}
use Rattle.messages.specs.Message.ScheduleReply.{schedule_read_reply, schedule_write_reply, schedule_enable_reply}
use Rattle.messages.specs.Message.Reply.{null, get_reply, set_reply, power_read_reply, power_control_reply, date_read_reply, date_write_reply, item_reply, tag_write_reply, schedule_reply}
use Rattle.messages.specs.Text.{reply_type, reply_text}
use Rattle.messages.specs.Spelling.{SpeltReply}
use Rattle.messages.specs.declared.message.Date.{Date}
use Rattle.messages.proofs.SpellingLaws.{reply-written}
use Rattle.store.proofs.Tables.{either}
use Rattle.station.specs.Read as station
use Rattle.station.proofs.ReadSpelt.{spelt_read}
use Rattle.station_c.specs.Read.{read_into}
use Rattle.station_c.proofs.Checks.{refusals}
use Rattle.exchange_c.specs.Demand2.{IsTold, MayHoldDate, MayHold}
use Rattle.exchange_c.proofs.Told.{tells_of, read_told}

date_fits : (d : Date) → MayHoldDate d → IsDate d
date_fits d h = record { year = h.0; month = h.1; day = h.2; weekday = h.3; hour = h.4; minute = h.5; daylight = h.6 }

date_held : (d : Date) → IsDate d → MayHoldDate d
date_held d h = (h.year, h.month, h.day, h.weekday, h.hour, h.minute, h.daylight)

fits : (r : Reply) → MayHold r → IsReply r
fits null h = tt
fits (get_reply result page code operation largest value) h =
    record { result = h.0; page = h.1; code = h.2; operation = h.3; largest = h.4; value = h.5 }
fits (set_reply result page code operation largest value) h =
    record { result = h.0; page = h.1; code = h.2; operation = h.3; largest = h.4; value = h.5 }
fits (power_read_reply status mode) h = (h.0, ⊎_elim (λ e. rw e) (⊎_elim (λ e. rw e) (λ e. rw e)) h.1)
fits (power_control_reply status mode) h = h
fits (date_read_reply d) h = date_fits d h
fits (date_write_reply status d) h = (h.0, date_fits d h.1)
fits (item_reply i bytes) h = record { few = h.0; bytes = h.1 }
fits (tag_write_reply status tag) h = (h.0, record { few = h.1.0; bytes = h.1.1 })
fits (schedule_reply (schedule_read_reply numbers)) h = record { sixteen = h.0; bytes = h.1 }
fits (schedule_reply (schedule_write_reply status numbers)) h = (h.0, record { sixteen = h.1.0; bytes = h.1.1 })
fits (schedule_reply (schedule_enable_reply status k enable)) h = h

mode_held : (mode : ℕ) → is_power_mode mode ≡ true → (mode ≡ 1) ⊎ ((mode ≡ 2) ⊎ (mode ≡ 4))
mode_held mode e =
    ⊎_elim (λ a. inl (eqb-true mode 1 a))
    (λ b. inr (⊎_elim (λ a. inl (eqb-true mode 2 a)) (λ a. inr (eqb-true mode 4 a)) (either (eqb mode 2) (eqb mode 4) b)))
    (either (eqb mode 1) (eqb mode 2 || eqb mode 4) e)

held : (r : Reply) → IsReply r → MayHold r
held null h = tt
held (get_reply result page code operation largest value) h = (h.result, h.page, h.code, h.operation, h.largest, h.value)
held (set_reply result page code operation largest value) h = (h.result, h.page, h.code, h.operation, h.largest, h.value)
held (power_read_reply status mode) h = (h.0, mode_held mode h.1)
held (power_control_reply status mode) h = h
held (date_read_reply d) h = date_held d h
held (date_write_reply status d) h = (h.0, date_held d h.1)
held (item_reply i bytes) h = (h.few, h.bytes)
held (tag_write_reply status tag) h = (h.0, (h.1.few, h.1.bytes))
held (schedule_reply (schedule_read_reply numbers)) h = (h.sixteen, h.bytes)
held (schedule_reply (schedule_write_reply status numbers)) h = (h.0, (h.1.sixteen, h.1.bytes))
held (schedule_reply (schedule_enable_reply status k enable)) h = h

pub spelt_told : (id : ℕ) (r : Reply) (packet : List ℕ) → 1 ≤ id → id ≤ 8 → MayHold r → SpeltReply (0x40 + id) r packet → IsTold packet (tells_of id r)
spelt_told id r packet least most h spelt = read_told packet id r (spelt_read id r least most (fits r h) packet spelt)

pub replies_told : (id : ℕ) (r : Reply) → 1 ≤ id → id ≤ 8 → MayHold r
    → IsTold (reply_packet (0x40 + id) (reply_type r) (reply_text r)) (tells_of id r)
replies_told id r least most h = spelt_told id r (reply_packet (0x40 + id) (reply_type r) (reply_text r)) least most h (reply-written (0x40 + id) r)

pub told_replies : (numbers bytes : ℕ) (packet : List ℕ) (id : ℕ) (r : Reply) → read_into numbers bytes packet ≡ station.reply id r → MayHold r
told_replies numbers bytes packet id r e = held r (refusals.written numbers bytes packet id r e).0
