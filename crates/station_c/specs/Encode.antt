-- The encoder for C (docs/RULES.md, 'Station', XC1 and XC4): what it takes and gives as numbers.
use Rattle.std.specs.Prelude.{cond, List, ◌∷◌, ◌≡◌, ℕ, eqb, length, replicate}
use Rattle.messages.specs.Message.{Request}
use Rattle.messages.specs.Message.ScheduleRequest.{schedule_read, schedule_write, schedule_enable}
use Rattle.messages.specs.Message.Request.{get_parameter, set_parameter, power_read, power_control, date_read, date_write, item_read, tag_write, schedule}
use Rattle.messages.specs.declared.message.Item.{Item}
use Rattle.calendar.specs.Calendar.{is_day, weekday_of}
use Rattle.station.specs.Encode.{Encoding, sends, refused, encoding, buffer_as}
use Rattle.station.specs.declared.encode.Destination.{Destination}

-- a destination as a number: 256, which is no byte, is ALL, and any other an ID
unfoldable pub destination_of : ℕ → Destination
destination_of n = cond (eqb n 256) Destination.All (Destination.Id n)

-- the encoder's calls, with the arguments of each in the order of station.h
pub data Call : Type 0 where
  encode_get : (page code : ℕ) → Call
  encode_set : (page code value : ℕ) → Call
  encode_power_read : Call
  encode_power_control : (mode : ℕ) → Call
  encode_date_read : Call
  encode_date_write : (year month day weekday hour minute daylight : ℕ) → Call
  encode_serial_read : Call
  encode_model_read : Call
  encode_tag_read : Call
  encode_former_tag_read : Call
  encode_tag_write : (tag : List ℕ) → Call
  encode_schedule_read : (program : ℕ) → Call
  encode_schedule_write : (program on_hour on_minute off_hour off_minute input week flags : ℕ) → Call
  encode_schedule_enable : (program enable : ℕ) → Call

-- the request that a call encodes
abbrev pub request_for : Call → Request
request_for (encode_get page code) = get_parameter page code
request_for (encode_set page code value) = set_parameter page code value
request_for encode_power_read = power_read
request_for (encode_power_control mode) = power_control mode
request_for encode_date_read = date_read
request_for (encode_date_write yy mm dd ww hh mn ds) =
    date_write (record { year = yy; month = mm; day = dd; weekday = ww; hour = hh; minute = mn; daylight = ds })
request_for encode_serial_read = item_read Item.Serial
request_for encode_model_read = item_read Item.Model
request_for encode_tag_read = item_read Item.Tag
request_for encode_former_tag_read = item_read Item.FormerTag
request_for (encode_tag_write tag) = tag_write tag
request_for (encode_schedule_read program) = schedule (schedule_read program)
request_for (encode_schedule_write program on_hour on_minute off_hour off_minute input week flags) =
    schedule (schedule_write (program ∷ on_hour ∷ on_minute ∷ off_hour ∷ off_minute ∷ input ∷ week ∷ flags ∷ replicate 8 0))
request_for (encode_schedule_enable program enable) = schedule (schedule_enable program enable)

-- the weekday that falls on a day, as C is told it: 0 to 6, and 7 where there is no such day
abbrev pub weekday_for : (year month day : ℕ) → ℕ
weekday_for year month day = cond (is_day year month day) (weekday_of year month day) 7

-- what a call gives, with so much room in the lent buffer and a destination as a number
abbrev pub encoding_for : ℕ → ℕ → Call → Encoding
encoding_for room dest c = encoding room (destination_of dest) (request_for c)

-- the result: 0, or the refusal
abbrev pub encoding_result : Encoding → ℕ
encoding_result (sends p) = 0
encoding_result (refused n) = n

-- the place for the length: filled with a packet's, else as it was
abbrev pub size_as : Encoding → ℕ → ℕ
size_as (sends p) before = length p
size_as (refused n) before = before

-- the result, and the place for the length
pub record Tells (e : Encoding) (r before after : ℕ) : Type 0 where
  pub result : r ≡ encoding_result e
  pub size : after ≡ size_as e before

-- the result, the place for the length, and the lent buffer
pub record EncodesForC (e : Encoding) (r : ℕ) (before after : List ℕ) (sizeBefore sizeAfter : ℕ) : Type 0 where
  pub told : Tells e r sizeBefore sizeAfter
  pub buffer : after ≡ buffer_as e before
