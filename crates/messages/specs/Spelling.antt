-- Texts and packets as they may come (docs/RULES.md, 'Packets', PK3, L1 and L2, and 'Demand 2', L3): each digit in either case, names as they are written.
use Rattle.std.specs.Prelude.{List, ◌≡◌, ℕ, take, drop}
use Rattle.wire.specs.Digits.{SameDigits}
use Rattle.wire.specs.Packet.{zero_byte, packet_with, length_digits}
use Rattle.messages.specs.Message.{Request, Reply}
use Rattle.messages.specs.Message.Request.{get_parameter, set_parameter, power_read, power_control, date_read, date_write, item_read, tag_write, schedule}
use Rattle.messages.specs.Message.Reply.{null, get_reply, set_reply, power_read_reply, power_control_reply, date_read_reply, date_write_reply, item_reply, tag_write_reply, schedule_reply}
use Rattle.messages.specs.Text.{request_type, request_text, reply_type, reply_text}

-- ---- texts

-- t may come where text is written: the name, n bytes from a place on, is the same; all else are digits
pub record Spells (at n : ℕ) (text t : List ℕ) : Type 0 where
  pub digits : SameDigits text t
  pub name : take n (drop at t) ≡ take n (drop at text)

-- how many bytes of a request's text are its name, at the beginning; Get and Set have none
abbrev pub name_length : Request → ℕ
name_length (get_parameter page code) = 0
name_length (set_parameter page code value) = 0
name_length power_read = 4
name_length (power_control mode) = 6
name_length date_read = 4
name_length (date_write d) = 4
name_length (item_read i) = 4
name_length (tag_write tag) = 4
name_length (schedule r) = 4

-- of a reply's text: BE, C311 and the like; D6 000004 behind 02 and the status; C203D6 behind the status
abbrev pub reply_name_length : Reply → ℕ
reply_name_length null = 2
reply_name_length (get_reply result page code operation largest value) = 0
reply_name_length (set_reply result page code operation largest value) = 0
reply_name_length (power_read_reply status mode) = 8
reply_name_length (power_control_reply status mode) = 6
reply_name_length (date_read_reply d) = 4
reply_name_length (date_write_reply status d) = 4
reply_name_length (item_reply i bytes) = 4
reply_name_length (tag_write_reply status tag) = 4
reply_name_length (schedule_reply r) = 4

-- how many bytes stand before it
abbrev pub reply_name_place : Reply → ℕ
reply_name_place null = 0
reply_name_place (get_reply result page code operation largest value) = 0
reply_name_place (set_reply result page code operation largest value) = 0
reply_name_place (power_read_reply status mode) = 4
reply_name_place (power_control_reply status mode) = 2
reply_name_place (date_read_reply d) = 0
reply_name_place (date_write_reply status d) = 0
reply_name_place (item_reply i bytes) = 0
reply_name_place (tag_write_reply status tag) = 0
reply_name_place (schedule_reply r) = 0

-- a text that spells a request, and one that spells a reply
abbrev pub SpellsRequest : Request → List ℕ → Type 0
SpellsRequest r t = Spells 0 (name_length r) (request_text r) t

abbrev pub SpellsReply : Reply → List ℕ → Type 0
SpellsReply r t = Spells (reply_name_place r) (reply_name_length r) (reply_text r) t

-- ---- packets

-- a packet whose text is as `Is` asks, with its length digits in either case too; its check code is that of its own bytes
pub record SpeltPacket (dest source kind : ℕ) (Is : List ℕ → Type 0) (p : List ℕ) : Type 0 where
  pub digits : List ℕ
  pub text : List ℕ
  pub counted : SameDigits (length_digits text) digits
  pub said : Is text
  pub whole : p ≡ packet_with dest source kind digits text

-- a packet that spells a request, sent to an address, and one that spells a reply, sent from an address
abbrev pub SpeltRequest : ℕ → Request → List ℕ → Type 0
SpeltRequest dest r p = SpeltPacket dest zero_byte (request_type r) (SpellsRequest r) p

abbrev pub SpeltReply : ℕ → Reply → List ℕ → Type 0
SpeltReply source r p = SpeltPacket zero_byte source (reply_type r) (SpellsReply r) p
