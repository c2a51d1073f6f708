-- What a message's text says is the message itself: its name selects its row, and its digits are read back field by field. Its type and length fit a packet.
use Prim.Native.Nat.{ℕ, zero, suc, ◌/◌, ◌%◌, ◌<◌, ◌≤◌}
use mathlib.Core.Bool.{Bool, true, false, cond, ◌||◌}
use mathlib.Core.List.{List, ◌++◌}
use mathlib.Core.Option.{none, some}
use mathlib.Core.Path.{◌≡◌, refl}
use native.Mathlib.Omega.{arith}
use borrow.Author.Tests.{le-leb, eq-eqb, eqb-true}
use lib.Dec.{leb, eqb}
use lib.ListN.{length}
use Rattle.wire.specs.Digits.{bind, digit_of, value_of, join, two, hex_of, two_at, four_at, octets_in}
use Rattle.wire.specs.Judge.{is_request_type}
use Rattle.wire.proofs.DigitLaws.{two_back, four-back, bytes_back, hex_length}
use Rattle.messages.specs.Message.{Request, Reply, IsDate, IsItem, IsNumbers, IsParameter, IsRequest, IsReply, is_power_mode}
use Rattle.messages.specs.Message.ScheduleRequest.{schedule_read, schedule_write, schedule_enable}
use Rattle.messages.specs.Message.ScheduleReply.{schedule_read_reply, schedule_write_reply, schedule_enable_reply}
use Rattle.messages.specs.Message.Request.{get_parameter, set_parameter, power_read, power_control, date_read, date_write, item_read, tag_write, schedule}
use Rattle.messages.specs.Message.Reply.{null, get_reply, set_reply, power_read_reply, power_control_reply, date_read_reply, date_write_reply, item_reply, tag_write_reply, schedule_reply}
use Rattle.messages.specs.Text.{date_text, parameter_text, schedule_text, schedule_reply_text, request_type, request_text, reply_type, reply_text}
use Rattle.messages.specs.Read.{
  begins_with,
  is_name,
  flag_at,
  mode_at,
  date_in,
  numbers_in,
  get_in,
  set_in,
  power_control_in,
  schedule_read_in,
  schedule_enable_in,
  command_in,
  request_in,
  parameter_in,
  power_read_reply_in,
  power_control_reply_in,
  date_write_reply_in,
  tag_write_reply_in,
  schedule_write_reply_in,
  schedule_enable_reply_in,
  plain_reply_in,
  command_reply_in,
  reply_in,
}
use Rattle.messages.specs.declared.message.Date.{Date}
use Rattle.messages.specs.declared.message.Item.{Item}

-- ---- parts of a text

-- a result, a status or an operation type
flag_back : (n : ℕ) → n ≤ 1
    → bind (join 16 (value_of (digit_of (n / 16))) (value_of (digit_of (n % 16)))) (λ m. cond (leb m 1) (some m) none) ≡ some n
flag_back n h = rw (two_back n (omega arith), le-leb n 1 h)

either : {P : Type 0} (a b : Bool) → (a || b) ≡ true → (a ≡ true → P) → (b ≡ true → P) → P
either true b h p q = p refl
either false b h p q = q h

-- the modes 1, 2 and 4 have four digits
mode_small : (n : ℕ) → is_power_mode n ≡ true → n < 65536
mode_small n h =
    either (eqb n 1) (eqb n 2 || eqb n 4) h (λ t. omega (arith, eqb-true n 1 t))
    (λ k. either (eqb n 2) (eqb n 4) k (λ t. omega (arith, eqb-true n 2 t)) (λ t. omega (arith, eqb-true n 4 t)))

each_item : (P : Item → Type 0) → P Item.Serial → P Item.Model → P Item.Tag → P Item.FormerTag → (i : Item) → P i
each_item P serial model tag former Item.Serial = serial
each_item P serial model tag former Item.Model = model
each_item P serial model tag former Item.Tag = tag
each_item P serial model tag former Item.FormerTag = former

date_back : (d : Date) → IsDate d → date_in (date_text d) ≡ some d
unfolding date_in date_text two_at
date_back d h =
    rw (
      two_back d.year h.year,
      two_back d.month h.month,
      two_back d.day h.day,
      two_back d.weekday h.weekday,
      two_back d.hour h.hour,
      two_back d.minute h.minute,
      two_back d.daylight h.daylight,
    )

item_back : (s : List ℕ) → IsItem s → octets_in (hex_of s) ≡ some s
item_back s h = bytes_back s h.bytes h.few

numbers-back : (s : List ℕ) → IsNumbers s → numbers_in (hex_of s) ≡ some s
unfolding numbers_in
numbers-back s h = rw (eq-eqb (length (hex_of s)) 32 (omega (arith, hex_length s))) (bytes_back s h.bytes (omega arith))

parameter-back : (reply : ℕ → ℕ → ℕ → ℕ → ℕ → ℕ → Reply) (r p c o l v : ℕ) → IsParameter r p c o l v
    → parameter_in reply (parameter_text r p c o l v) ≡ some (reply r p c o l v)
unfolding parameter_in parameter_text flag_at two_at four_at
parameter-back reply r p c o l v h =
    rw (
      flag_back r h.result,
      two_back p h.page,
      two_back c h.code,
      flag_back o h.operation,
      four-back l h.largest,
      four-back v h.value,
    )

-- ---- messages

pub request-back : (r : Request) → IsRequest r → request_in (request_type r) (request_text r) ≡ some r
unfolding request_in request_type request_text date_text schedule_text begins_with is_name command_in get_in set_in power_control_in schedule_read_in schedule_enable_in two_at four_at
request-back (get_parameter page code) h = rw (two_back page h.0, two_back code h.1)
request-back (set_parameter page code value) h = rw (two_back page h.0, two_back code h.1, four-back value h.2)
request-back power_read h = refl
request-back (power_control mode) h = rw (four-back mode h)
request-back date_read h = refl
request-back (date_write d) h = rw (date_back d h)
request-back (item_read i) h =
    each_item (λ i. request_in (request_type (item_read i)) (request_text (item_read i)) ≡ some (item_read i)) refl refl refl refl i
request-back (tag_write tag) h = rw (item_back tag h)
request-back (schedule (schedule_read program)) h = rw (two_back program h)
request-back (schedule (schedule_write numbers)) h = rw (numbers-back numbers h)
request-back (schedule (schedule_enable program enable)) h = rw (two_back program h.0, two_back enable h.1)

-- 00 and 01 begin no name, so that C203D6 stands behind them
status-is_no_name : (status mode : ℕ) → status ≤ 1
    → let t = reply_text (power_control_reply status mode) in command_reply_in t ≡ power_control_reply_in t
unfolding reply_text command_reply_in plain_reply_in begins_with is_name
status-is_no_name zero mode h = refl
status-is_no_name (suc zero) mode h = refl
status-is_no_name (suc (suc status)) mode h = absurd (omega arith)

pub reply-back : (r : Reply) → IsReply r → reply_in (reply_type r) (reply_text r) ≡ some r
unfolding reply_in reply_type reply_text date_text schedule_reply_text begins_with is_name command_reply_in plain_reply_in power_read_reply_in power_control_reply_in date_write_reply_in tag_write_reply_in schedule_write_reply_in schedule_enable_reply_in flag_at mode_at two_at four_at
reply-back null h = refl
reply-back (get_reply result page code operation largest value) h = parameter-back get_reply result page code operation largest value h
reply-back (set_reply result page code operation largest value) h = parameter-back set_reply result page code operation largest value h
reply-back (power_read_reply status mode) h = rw (flag_back status h.0, four-back mode (mode_small mode h.1), h.1)
reply-back (power_control_reply status mode) h =
    rw (status-is_no_name status mode h.0, flag_back status h.0, four-back mode h.1)
reply-back (date_read_reply d) h = rw (date_back d h)
reply-back (date_write_reply status d) h = rw (flag_back status h.0, date_back d h.1)
reply-back (item_reply i bytes) h =
    let e = item_back bytes h in
    each_item (λ i. reply_in (reply_type (item_reply i bytes)) (reply_text (item_reply i bytes)) ≡ some (item_reply i bytes)) (rw e) (rw e) (rw e) (rw e) i
reply-back (tag_write_reply status tag) h =
    rw (le-leb 2 (length (two status ++ hex_of tag)) (omega arith), flag_back status h.0, item_back tag h.1)
reply-back (schedule_reply (schedule_read_reply numbers)) h = rw (numbers-back numbers h)
reply-back (schedule_reply (schedule_write_reply status numbers)) h =
    let behind = h.1 in
    rw (
      eq-eqb (length (two status ++ hex_of numbers)) 34 (omega (arith, hex_length numbers)),
      flag_back status h.0,
      numbers-back numbers behind,
    )
reply-back (schedule_reply (schedule_enable_reply status program enable)) h =
    rw (flag_back status h.0, two_back program h.1, two_back enable h.2)

-- ---- types and lengths

pub request-type : (r : Request) → is_request_type (request_type r) ≡ true
unfolding request_type
request-type (get_parameter page code) = refl
request-type (set_parameter page code value) = refl
request-type power_read = refl
request-type (power_control mode) = refl
request-type date_read = refl
request-type (date_write d) = refl
request-type (item_read i) = refl
request-type (tag_write tag) = refl
request-type (schedule r) = refl

-- a text that a packet can hold: STX and ETX counted, it is 4 to 64 bytes long
abbrev Travels : List ℕ → Type 0
Travels t = (2 ≤ length t) × (length t ≤ 62)

pub request-length : (r : Request) → IsRequest r → Travels (request_text r)
unfolding request_text date_text schedule_text
request-length (get_parameter page code) h = omega arith
request-length (set_parameter page code value) h = omega arith
request-length power_read h = omega arith
request-length (power_control mode) h = omega arith
request-length date_read h = omega arith
request-length (date_write d) h = omega arith
request-length (item_read i) h = each_item (λ i. Travels (request_text (item_read i))) (omega arith) (omega arith) (omega arith) (omega arith) i
request-length (tag_write tag) h = omega (arith, hex_length tag)
request-length (schedule (schedule_read program)) h = omega arith
request-length (schedule (schedule_write numbers)) h = omega (arith, hex_length numbers)
request-length (schedule (schedule_enable program enable)) h = omega arith

pub reply-length : (r : Reply) → IsReply r → Travels (reply_text r)
unfolding reply_text date_text parameter_text schedule_reply_text
reply-length null h = omega arith
reply-length (get_reply result page code operation largest value) h = omega arith
reply-length (set_reply result page code operation largest value) h = omega arith
reply-length (power_read_reply status mode) h = omega arith
reply-length (power_control_reply status mode) h = omega arith
reply-length (date_read_reply d) h = omega arith
reply-length (date_write_reply status d) h = omega arith
reply-length (item_reply i bytes) h =
    let e = hex_length bytes in
    each_item (λ i. Travels (reply_text (item_reply i bytes))) (omega arith) (omega arith) (omega arith) (omega arith) i
reply-length (tag_write_reply status tag) h = omega (arith, hex_length tag)
reply-length (schedule_reply (schedule_read_reply numbers)) h = omega (arith, hex_length numbers)
reply-length (schedule_reply (schedule_write_reply status numbers)) h = omega (arith, hex_length numbers)
reply-length (schedule_reply (schedule_enable_reply status program enable)) h = omega arith
