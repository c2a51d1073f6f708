-- The reader (docs/RULES.md, 'Station', RD1): refusals 30 to 35 in this order, or the reply in one whole packet, with its sender.
use Rattle.std.specs.Prelude.{Bool, cond, not, ◌&&◌, ◌||◌, List, ◌≡◌, ℕ, ◌-◌, ltb, leb, eqb, length, get_or, IfOk}
use Rattle.std.proofs.Math.Option.{Option, none}
use Rattle.wire.specs.Packet.{soh, zero_byte, least_id, most_id, address_base, address_of, type_b, type_d, type_f, least_packet, size, packet_text}
use Rattle.wire.specs.Judge.{Verdict, is_length, ends_in_return, has_check_code, is_message}
use Rattle.wire.specs.Judge as judge
use Rattle.messages.specs.Message.{Reply}
use Rattle.messages.specs.Read.{reply_in}
use Rattle.messages.specs.View.{ExactReply}
use Rattle.replies.specs.View.{TextReading, reading, or_refused}
use Rattle.replies.specs.View as text
use Rattle.station.specs.declared.read.PacketReading as declared

-- a reply with its sender's ID, or a refusal
pub data PacketReading : Type 0 where
  reply : ℕ → Reply → PacketReading
  refused : ℕ → PacketReading

-- what is read of a text, with the sender's ID
abbrev pub sent_by : ℕ → TextReading → PacketReading
sent_by id (text.reply r) = reply id r
sent_by id (text.refused n) = refused n

-- the address of a monitor
abbrev pub is_source : ℕ → Bool
is_source b = leb (address_of least_id) b && leb b (address_of most_id)

-- replies have type B, D or F
abbrev pub is_reply_type : ℕ → Bool
is_reply_type kind = eqb kind type_b || (eqb kind type_d || eqb kind type_f)

-- SOH, the reserved byte and the station's address; the source; the type
unfoldable pub is_reply_header : List ℕ → Bool
is_reply_header p =
    eqb (get_or p 0 0) soh && eqb (get_or p 1 0) zero_byte && eqb (get_or p 2 0) zero_byte && is_source (get_or p 3 0) && is_reply_type (get_or p 4 0)

-- the length digits are good, and give the packet's length
unfoldable pub is_whole_length : List ℕ → Bool
is_whole_length p = is_length p && eqb (size p) (length p)

-- How many bytes a packet has whose first bytes these are, by its length digits; 0 while fewer than seven are there, and where the digits are bad. No
-- other byte tells where a packet ends.
unfoldable pub reply_size : List ℕ → ℕ
reply_size first = cond (ltb (length first) 7) 0 (cond (is_length first) (size first) 0)

-- the reply in the message of a packet; none where STX or ETX is missing
unfoldable pub reply_in_message : List ℕ → Option Reply
reply_in_message p = cond (is_message p) (reply_in (get_or p 4 0) (packet_text p)) none

-- refusals 30 to 34
unfoldable pub reply_verdict : List ℕ → Verdict
reply_verdict p =
    cond (ltb (length p) least_packet) (judge.refused 30)
    (cond (not (is_reply_header p)) (judge.refused 31)
    (cond (not (is_whole_length p)) (judge.refused 32)
    (cond (not (ends_in_return p)) (judge.refused 33)
    (cond (not (has_check_code p)) (judge.refused 34) judge.good))))

abbrev pub unless_refused : Verdict → PacketReading → PacketReading
unless_refused judge.good r = r
unless_refused (judge.refused n) r = refused n

-- then the reply, or 35
unfoldable pub read_packet : List ℕ → PacketReading
read_packet p = unless_refused (reply_verdict p) (sent_by (get_or p 3 0 - address_base) (or_refused (reply_in_message p)))

-- ---- what the code's answer means

abbrev pub packet_reading : declared.PacketReading → PacketReading
packet_reading r = sent_by r.sender (reading r.answer)

abbrev pub sender_in : PacketReading → ℕ
sender_in (reply id r) = id
sender_in (refused n) = 0

-- the answer and its sender; the bytes of a tag, a serial number or a model are as many as counted, with zeros behind them. A refusal has sender 0.
pub record ReadsPacket (r : declared.PacketReading) (wanted : PacketReading) : Type 0 where
  pub answer : packet_reading r ≡ wanted
  pub sender : r.sender ≡ sender_in wanted
  pub exact : IfOk r.answer ExactReply
