-- Every refusal of the encoder and of the reader for C, the weekday of a day and the length that first bytes tell (docs/RULES.md, 'Station', EN1, RD1, XC1,
-- XC2 and XC4), their numbers written out; digits, the exclusive or, the replies' texts, the days of a month and the weekday of a day are those of `wire`,
-- `messages` and `calendar`. A call is refused with the number of the first check that fails, and goes on where none does.
use Rattle.std.specs.Prelude.{Bool, true, false, cond, not, ◌&&◌, ◌||◌, List, [], ◌∷◌, ◌≡◌, ℕ, ◌+◌, ◌-◌, ◌≤◌, ltb, leb, eqb, length, get_or, take, drop}
use Rattle.std.proofs.Math.Option.{Option, none, some}
use Rattle.wire.specs.Digits.{two_at}
use Rattle.wire.specs.Packet.{xor_of}
use Rattle.wire.specs.Checks.{Check, first_failed}
use Rattle.messages.specs.Message.{Reply, IsReply}
use Rattle.messages.specs.Read.{reply_in}
use Rattle.messages.specs.Spelling.{SpeltReply}
use Rattle.calendar.specs.Calendar.{days_in, weekday_of}
use Rattle.station.specs.Encode as encode
use Rattle.station.specs.Read as read
use Rattle.station.specs.Read.{reply_size}
use Rattle.station_c.specs.Encode.{Call, encode_get, encode_set, encode_power_read, encode_power_control, encode_date_read, encode_date_write}
use Rattle.station_c.specs.Encode.{encode_serial_read, encode_model_read, encode_tag_read, encode_former_tag_read, encode_tag_write, encoding_for, weekday_for}
use Rattle.station_c.specs.Encode.{encode_schedule_read, encode_schedule_write, encode_schedule_enable}
use Rattle.station_c.specs.Read.{read_into}

-- ---- the encoder

abbrev pub encoding_refusal : encode.Encoding → Option ℕ
encoding_refusal (encode.sends p) = none
encoding_refusal (encode.refused n) = some n

-- the IDs 1 to 8, and 256 for ALL
abbrev pub is_destination : ℕ → Bool
is_destination n = (leb 1 n && leb n 8) || eqb n 256

-- hours to 24 and minutes to 60, where 24 and 60 come together
abbrev pub is_on_off : ℕ → ℕ → Bool
is_on_off hour minute = leb hour 24 && leb minute 60 && cond (eqb hour 24) (eqb minute 60) (not (eqb minute 60))

-- modes 1 and 4; days that their month has, with the weekday that falls on them, hours to 23, minutes to 59, DS 0; tags of at most 16 bytes; programs 0 to 6
-- with what they may hold; enable 0 or 1; any page, code and value
abbrev pub is_taken : Call → Bool
is_taken (encode_get page code) = true
is_taken (encode_set page code value) = true
is_taken encode_power_read = true
is_taken (encode_power_control mode) = eqb mode 1 || eqb mode 4
is_taken encode_date_read = true
is_taken (encode_date_write yy mm dd ww hh mn ds) =
    leb yy 99 && (leb 1 mm && leb mm 12) && (leb 1 dd && leb dd (days_in yy mm)) && eqb ww (weekday_of yy mm dd)
    && leb hh 23 && leb mn 59 && eqb ds 0
is_taken encode_serial_read = true
is_taken encode_model_read = true
is_taken encode_tag_read = true
is_taken encode_former_tag_read = true
is_taken (encode_tag_write tag) = leb (length tag) 16
is_taken (encode_schedule_read program) = leb program 6
is_taken (encode_schedule_write program on_hour on_minute off_hour off_minute input week flags) =
    leb program 6 && is_on_off on_hour on_minute && is_on_off off_hour off_minute
    && (eqb input 0 || (eqb input 1 || (eqb input 3 || eqb input 17))) && leb week 127 && leb flags 7
is_taken (encode_schedule_enable program enable) = leb program 6 && leb enable 1

-- the lent buffer, the destination, the values
unfoldable pub encoder_checks : ℕ → ℕ → Call → List Check
encoder_checks room dest c = (ltb room 64, 10) ∷ (not (is_destination dest), 20) ∷ (not (is_taken c), 21) ∷ []

-- ---- the reader

abbrev pub reading_refusal : read.PacketReading → Option ℕ
reading_refusal (read.reply id r) = none
reading_refusal (read.refused n) = some n

-- 01h '0' '0', a source A to H, a type B, D or F
abbrev pub is_header : List ℕ → Bool
is_header p =
    eqb (get_or p 0 0) 0x01 && eqb (get_or p 1 0) 0x30 && eqb (get_or p 2 0) 0x30
    && (leb 0x41 (get_or p 3 0) && leb (get_or p 3 0) 0x48)
    && (eqb (get_or p 4 0) 0x42 || (eqb (get_or p 4 0) 0x44 || eqb (get_or p 4 0) 0x46))

-- good length digits of 4 to 64 that give the packet's length
abbrev pub is_its_length : Option ℕ → ℕ → Bool
is_its_length (some l) n = leb 4 l && leb l 64 && eqb (l + 9) n
is_its_length none n = false

abbrev pub is_some : Option Reply → Bool
is_some (some r) = true
is_some none = false

-- STX, ETX, and between them one of the replies
abbrev pub is_reply : List ℕ → Bool
is_reply p =
    eqb (get_or p 7 0) 0x02 && eqb (get_or p (length p - 3) 0) 0x03 && is_some (reply_in (get_or p 4 0) (take (length p - 11) (drop 8 p)))

-- the lent numbers and bytes; how many bytes; the header; the length; CR; the check code; the message
unfoldable pub reader_checks : ℕ → ℕ → List ℕ → List Check
reader_checks numbers bytes p =
    (ltb numbers 9 || ltb bytes 16, 10)
    ∷ (ltb (length p) 13, 30)
    ∷ (not (is_header p), 31)
    ∷ (not (is_its_length (two_at p 5) (length p)), 32)
    ∷ (not (eqb (get_or p (length p - 1) 0) 0x0D), 33)
    ∷ (not (eqb (get_or p (length p - 2) 0) (xor_of (take (length p - 3) (drop 1 p)))), 34)
    ∷ (not (is_reply p), 35)
    ∷ []

-- ---- the length that first bytes tell

-- L + 9 once seven bytes are there and their length digits give 4 to 64; else 0
abbrev pub size_by : ℕ → Option ℕ → ℕ
size_by n (some l) = cond (leb 7 n && (leb 4 l && leb l 64)) (l + 9) 0
size_by n none = 0

-- ---- every call

pub record Refusals : Type 0 where
  pub encoder : (room dest : ℕ) (c : Call) → encoding_refusal (encoding_for room dest c) ≡ first_failed (encoder_checks room dest c)
  pub reader : (numbers bytes : ℕ) (p : List ℕ) → reading_refusal (read_into numbers bytes p) ≡ first_failed (reader_checks numbers bytes p)
  pub size : (first : List ℕ) → reply_size first ≡ size_by (length first) (two_at first 5)
  -- with the weekday that C is told a date write of the day is taken, and with no other; 7 is told where there is no such day
  pub weekday : (yy mm dd ww hh mn : ℕ)
      → is_taken (encode_date_write yy mm dd ww hh mn 0) ≡ (leb ww 6 && eqb ww (weekday_for yy mm dd) && leb hh 23 && leb mn 59)
  pub no_day : (yy mm dd : ℕ) → (leb yy 99 && (leb 1 mm && leb mm 12) && (leb 1 dd && leb dd (days_in yy mm))) ≡ false → weekday_for yy mm dd ≡ 7
  -- no packet needs more than 73 bytes, and one that is read has the length that its first bytes tell
  pub most : (first : List ℕ) → reply_size first ≤ 73
  pub framed : (numbers bytes : ℕ) (p : List ℕ) (id : ℕ) (r : Reply) → read_into numbers bytes p ≡ read.reply id r
      → (n : ℕ) → 7 ≤ n → n ≤ length p → reply_size (take n p) ≡ length p
  -- and it spells the reply that is read, sent by the monitor that is told: that reply's packet but for the case of digits, with the check code of its own bytes
  pub written : (numbers bytes : ℕ) (p : List ℕ) (id : ℕ) (r : Reply) → read_into numbers bytes p ≡ read.reply id r
      → IsReply r × ((1 ≤ id) × (id ≤ 8)) × SpeltReply (0x40 + id) r p
