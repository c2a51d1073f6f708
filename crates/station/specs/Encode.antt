-- The encoder (docs/RULES.md, 'Station', EN1): refusals 10, 20 and 21 in this order, or the packet of a request.
use Rattle.std.specs.Prelude.{Result, Ok, Err, Bool, true, cond, ◌&&◌, ◌||◌, List, ◌≡◌, ℕ, ltb, leb, eqb, length}
use Rattle.std.proofs.Math.Option.{Option, none, some}
use Rattle.wire.specs.Packet.{least_id, most_id, address_of, all_address, least_buffer, request_packet, over}
use Rattle.wire.specs.Refusal.{number_of}
use Rattle.wire.specs.declared.refusal.Refusal.{Refusal}
use Rattle.messages.specs.Message.{ScheduleRequest, Request}
use Rattle.messages.specs.Message.ScheduleRequest.{schedule_read, schedule_write, schedule_enable}
use Rattle.messages.specs.Message.Request.{get_parameter, set_parameter, power_read, power_control, date_read, date_write, item_read, tag_write, schedule}
use Rattle.messages.specs.Text.{request_type, request_text}
use Rattle.calendar.specs.Calendar as date
use Rattle.schedule.specs.Numbers as program
use Rattle.station.specs.declared.encode.Destination.{Destination}

-- a packet to send, or a refusal
pub data Encoding : Type 0 where
  sends : List ℕ → Encoding
  refused : ℕ → Encoding

-- the address of a destination: an ID that is one, or ALL
abbrev pub address_in : Destination → Option ℕ
address_in (Destination.Id n) = cond (leb least_id n && leb n most_id) (some (address_of n)) none
address_in Destination.All = some all_address

-- programs 0 to 6, sixteen numbers that a schedule write accepts, enable 0 or 1
abbrev pub is_schedule_in_range : ScheduleRequest → Bool
is_schedule_in_range (schedule_read k) = program.is_listed k
is_schedule_in_range (schedule_write numbers) = program.is_accepted numbers
is_schedule_in_range (schedule_enable k enable) = program.is_listed k && program.is_enable enable

-- each value in its range: modes 1 and 4, a date that a date write accepts, a tag of at most 16 bytes; Get and Set take any
abbrev pub is_in_range : Request → Bool
is_in_range (get_parameter page code) = true
is_in_range (set_parameter page code value) = true
is_in_range power_read = true
is_in_range (power_control mode) = eqb mode 1 || eqb mode 4
is_in_range date_read = true
is_in_range (date_write d) = date.is_accepted d
is_in_range (item_read i) = true
is_in_range (tag_write tag) = leb (length tag) 16
is_in_range (schedule r) = is_schedule_in_range r

-- to an address, of a type and a text: 20 where there is no address, 21 where a value is outside its range
abbrev pub encoding_to : Option ℕ → (in_range : Bool) → ℕ → List ℕ → Encoding
encoding_to none in_range kind text = refused 20
encoding_to (some address) in_range kind text = cond in_range (sends (request_packet address kind text)) (refused 21)

unfoldable pub encoding_of : ℕ → Destination → (in_range : Bool) → ℕ → List ℕ → Encoding
encoding_of room dest in_range kind text = cond (ltb room least_buffer) (refused 10) (encoding_to (address_in dest) in_range kind text)

-- what encoding a request into a buffer with so much room gives
abbrev pub encoding : ℕ → Destination → Request → Encoding
encoding room dest r = encoding_of room dest (is_in_range r) (request_type r) (request_text r)

-- ---- what the code's answer means, and what is in the buffer

abbrev pub EncodedAs : Encoding → Result ℕ Refusal → Type 0
EncodedAs (sends p) (Ok n) = n ≡ length p
EncodedAs (sends p) (Err r) = ⊥
EncodedAs (refused k) (Ok n) = ⊥
EncodedAs (refused k) (Err r) = number_of r ≡ k

abbrev pub buffer_as : Encoding → List ℕ → List ℕ
buffer_as (sends p) buffer = over p buffer
buffer_as (refused k) buffer = buffer

-- the answer, and the lent buffer: the packet at its start, or as it was
pub record Encodes (e : Encoding) (r : Result ℕ Refusal) (before after : List ℕ) : Type 0 where
  pub answer : EncodedAs e r
  pub buffer : after ≡ buffer_as e before
