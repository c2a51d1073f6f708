-- The reader for C (docs/RULES.md, 'Station', XC1): a reply as a kind, numbers and bytes.
use Rattle.std.specs.Prelude.{cond, ◌||◌, List, [], ◌∷◌, ◌≡◌, ℕ, ltb, length}
use Rattle.wire.specs.Packet.{over}
use Rattle.messages.specs.Message.{ScheduleReply, Reply, reply_bytes}
use Rattle.messages.specs.Message.ScheduleReply.{schedule_read_reply, schedule_write_reply, schedule_enable_reply}
use Rattle.messages.specs.Message.Reply.{null, get_reply, set_reply, power_read_reply, power_control_reply, date_read_reply, date_write_reply, item_reply, tag_write_reply, schedule_reply}
use Rattle.messages.specs.declared.message.Date.{Date}
use Rattle.messages.specs.declared.message.Item.{Item}
use Rattle.station.specs.Read.{PacketReading, reply, refused, read_packet}

-- the number of a reply's kind; none is a refusal's
abbrev pub item_kind : Item → ℕ
item_kind Item.Serial = 108
item_kind Item.Model = 109
item_kind Item.Tag = 110
item_kind Item.FormerTag = 111

abbrev pub schedule_kind : ScheduleReply → ℕ
schedule_kind (schedule_read_reply numbers) = 113
schedule_kind (schedule_write_reply status numbers) = 114
schedule_kind (schedule_enable_reply status program enable) = 115

abbrev pub reply_kind : Reply → ℕ
reply_kind null = 101
reply_kind (get_reply result page code operation largest value) = 102
reply_kind (set_reply result page code operation largest value) = 103
reply_kind (power_read_reply status mode) = 104
reply_kind (power_control_reply status mode) = 105
reply_kind (date_read_reply d) = 106
reply_kind (date_write_reply status d) = 107
reply_kind (item_reply i bytes) = item_kind i
reply_kind (tag_write_reply status tag) = 112
reply_kind (schedule_reply r) = schedule_kind r

-- YY MM DD WW HH MN DS
abbrev pub date_numbers : Date → List ℕ
date_numbers d = d.year ∷ d.month ∷ d.day ∷ d.weekday ∷ d.hour ∷ d.minute ∷ d.daylight ∷ []

-- the sixteen numbers of a program are told as the reply's bytes
abbrev pub schedule_numbers : ScheduleReply → List ℕ
schedule_numbers (schedule_read_reply numbers) = []
schedule_numbers (schedule_write_reply status numbers) = status ∷ []
schedule_numbers (schedule_enable_reply status program enable) = status ∷ program ∷ enable ∷ []

-- a reply's numbers, in the order of its message
abbrev pub numbers_of : Reply → List ℕ
numbers_of null = []
numbers_of (get_reply result page code operation largest value) = result ∷ page ∷ code ∷ operation ∷ largest ∷ value ∷ []
numbers_of (set_reply result page code operation largest value) = result ∷ page ∷ code ∷ operation ∷ largest ∷ value ∷ []
numbers_of (power_read_reply status mode) = status ∷ mode ∷ []
numbers_of (power_control_reply status mode) = status ∷ mode ∷ []
numbers_of (date_read_reply d) = date_numbers d
numbers_of (date_write_reply status d) = status ∷ date_numbers d
numbers_of (item_reply i bytes) = []
numbers_of (tag_write_reply status tag) = status ∷ []
numbers_of (schedule_reply r) = schedule_numbers r

-- 10 where a lent slice has no room for the longest reply, 9 numbers or 16 bytes; then what the reader says
unfoldable pub read_into : ℕ → ℕ → List ℕ → PacketReading
read_into numbers bytes packet = cond (ltb numbers 9 || ltb bytes 16) (refused 10) (read_packet packet)

-- the result: the kind, or the refusal
abbrev pub reading_result : PacketReading → ℕ
reading_result (reply id r) = reply_kind r
reading_result (refused n) = n

-- the lent numbers: the sender's ID and the reply's numbers, the rest as it was; refused, all as it was
abbrev pub numbers_as : PacketReading → List ℕ → List ℕ
numbers_as (reply id r) before = over (id ∷ numbers_of r) before
numbers_as (refused n) before = before

-- the lent bytes: the reply's, the rest as it was
abbrev pub bytes_as : PacketReading → List ℕ → List ℕ
bytes_as (reply id r) before = over (reply_bytes r) before
bytes_as (refused n) before = before

-- the place for how many bytes there are
abbrev pub count_as : PacketReading → ℕ → ℕ
count_as (reply id r) before = length (reply_bytes r)
count_as (refused n) before = before

-- the result, both lent slices and the place for the count
pub record ReadsForC (e : PacketReading) (r : ℕ) (numbersBefore numbersAfter bytesBefore bytesAfter : List ℕ) (countBefore countAfter : ℕ) : Type 0 where
  pub result : r ≡ reading_result e
  pub numbers : numbersAfter ≡ numbers_as e numbersBefore
  pub bytes : bytesAfter ≡ bytes_as e bytesBefore
  pub count : countAfter ≡ count_as e countBefore
