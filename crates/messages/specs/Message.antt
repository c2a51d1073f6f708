-- Messages (docs/RULES.md, 'What a good packet does'): the requests and replies of the message table as values.
-- Results, statuses, operation types and modes are the rules' numbers; serial number, model and tags are lists of bytes.
use Rattle.std.specs.Prelude.{Bool, true, ◌||◌, List, [], ◌≡◌, ℕ, ◌≤◌, ◌<◌, eqb, length}
use Rattle.wire.specs.Digits.{Bytes}
use Rattle.messages.specs.declared.message.Date.{Date}
use Rattle.messages.specs.declared.message.Item.{Item}

-- Weekly schedules: a program is read, written or enabled. What is written and shown is sixteen numbers: the program, ON_HOUR, ON_MIN, OFF_HOUR,
-- OFF_MIN, INPUT, WEEK, FL, and eight reserved ones.
pub data ScheduleRequest : Type 0 where
  schedule_read : (program : ℕ) → ScheduleRequest
  schedule_write : (numbers : List ℕ) → ScheduleRequest
  schedule_enable : (program enable : ℕ) → ScheduleRequest

pub data ScheduleReply : Type 0 where
  schedule_read_reply : (numbers : List ℕ) → ScheduleReply
  schedule_write_reply : (status : ℕ) (numbers : List ℕ) → ScheduleReply
  schedule_enable_reply : (status program enable : ℕ) → ScheduleReply

pub data Request : Type 0 where
  get_parameter : (page code : ℕ) → Request
  set_parameter : (page code value : ℕ) → Request
  power_read : Request
  power_control : (mode : ℕ) → Request
  date_read : Request
  date_write : Date → Request
  item_read : Item → Request
  tag_write : List ℕ → Request
  schedule : ScheduleRequest → Request

pub data Reply : Type 0 where
  null : Reply
  get_reply : (result page code operation largest value : ℕ) → Reply
  set_reply : (result page code operation largest value : ℕ) → Reply
  power_read_reply : (status mode : ℕ) → Reply
  power_control_reply : (status mode : ℕ) → Reply
  date_read_reply : Date → Reply
  date_write_reply : (status : ℕ) → Date → Reply
  item_reply : Item → List ℕ → Reply
  tag_write_reply : (status : ℕ) → List ℕ → Reply
  schedule_reply : ScheduleReply → Reply

-- the bytes in a request, a tag's or a schedule's numbers, and in a reply, those of a serial number, a model or a tag, or a schedule's numbers
abbrev pub schedule_bytes : ScheduleRequest → List ℕ
schedule_bytes (schedule_read program) = []
schedule_bytes (schedule_write numbers) = numbers
schedule_bytes (schedule_enable program enable) = []

abbrev pub schedule_reply_bytes : ScheduleReply → List ℕ
schedule_reply_bytes (schedule_read_reply numbers) = numbers
schedule_reply_bytes (schedule_write_reply status numbers) = numbers
schedule_reply_bytes (schedule_enable_reply status program enable) = []

abbrev pub request_bytes : Request → List ℕ
request_bytes (get_parameter page code) = []
request_bytes (set_parameter page code value) = []
request_bytes power_read = []
request_bytes (power_control mode) = []
request_bytes date_read = []
request_bytes (date_write d) = []
request_bytes (item_read i) = []
request_bytes (tag_write tag) = tag
request_bytes (schedule r) = schedule_bytes r

abbrev pub reply_bytes : Reply → List ℕ
reply_bytes null = []
reply_bytes (get_reply result page code operation largest value) = []
reply_bytes (set_reply result page code operation largest value) = []
reply_bytes (power_read_reply status mode) = []
reply_bytes (power_control_reply status mode) = []
reply_bytes (date_read_reply d) = []
reply_bytes (date_write_reply status d) = []
reply_bytes (item_reply i bytes) = bytes
reply_bytes (tag_write_reply status tag) = tag
reply_bytes (schedule_reply r) = schedule_reply_bytes r

-- a power status reply shows mode 1, 2 or 4
abbrev pub is_power_mode : ℕ → Bool
is_power_mode mode = eqb mode 1 || (eqb mode 2 || eqb mode 4)

-- ---- the values that have a text: two digits hold a byte, four digits 16 bits, at most 16 bytes travel, and a schedule's numbers are 16

pub record IsDate (d : Date) : Type 0 where
  pub year : d.year < 256
  pub month : d.month < 256
  pub day : d.day < 256
  pub weekday : d.weekday < 256
  pub hour : d.hour < 256
  pub minute : d.minute < 256
  pub daylight : d.daylight < 256

pub record IsItem (s : List ℕ) : Type 0 where
  pub few : length s ≤ 16
  pub bytes : Bytes s

pub record IsParameter (r p c o l v : ℕ) : Type 0 where
  pub result : r ≤ 1
  pub page : p < 256
  pub code : c < 256
  pub operation : o ≤ 1
  pub largest : l < 65536
  pub value : v < 65536

pub record IsNumbers (s : List ℕ) : Type 0 where
  pub sixteen : length s ≡ 16
  pub bytes : Bytes s

abbrev pub IsScheduleRequest : ScheduleRequest → Type 0
IsScheduleRequest (schedule_read program) = program < 256
IsScheduleRequest (schedule_write numbers) = IsNumbers numbers
IsScheduleRequest (schedule_enable program enable) = (program < 256) × (enable < 256)

abbrev pub IsScheduleReply : ScheduleReply → Type 0
IsScheduleReply (schedule_read_reply numbers) = IsNumbers numbers
IsScheduleReply (schedule_write_reply status numbers) = (status ≤ 1) × IsNumbers numbers
IsScheduleReply (schedule_enable_reply status program enable) = (status ≤ 1) × (program < 256) × (enable < 256)

abbrev pub IsRequest : Request → Type 0
IsRequest (get_parameter page code) = (page < 256) × (code < 256)
IsRequest (set_parameter page code value) = (page < 256) × (code < 256) × (value < 65536)
IsRequest power_read = Unit {0}
IsRequest (power_control mode) = mode < 65536
IsRequest date_read = Unit {0}
IsRequest (date_write d) = IsDate d
IsRequest (item_read i) = Unit {0}
IsRequest (tag_write tag) = IsItem tag
IsRequest (schedule r) = IsScheduleRequest r

abbrev pub IsReply : Reply → Type 0
IsReply null = Unit {0}
IsReply (get_reply result page code operation largest value) = IsParameter result page code operation largest value
IsReply (set_reply result page code operation largest value) = IsParameter result page code operation largest value
IsReply (power_read_reply status mode) = (status ≤ 1) × (is_power_mode mode ≡ true)
IsReply (power_control_reply status mode) = (status ≤ 1) × (mode < 65536)
IsReply (date_read_reply d) = IsDate d
IsReply (date_write_reply status d) = (status ≤ 1) × IsDate d
IsReply (item_reply i bytes) = IsItem bytes
IsReply (tag_write_reply status tag) = (status ≤ 1) × IsItem tag
IsReply (schedule_reply r) = IsScheduleReply r
