-- The texts of messages (docs/RULES.md, the message table in 'What a good packet does'), between STX and ETX, each with its type.
-- Names such as C211 are bytes of their own; numbers are digits.
use Rattle.std.specs.Prelude.{List, [], ◌∷◌, ◌++◌, ℕ}
use Rattle.wire.specs.Digits.{two, four, hex_of}
use Rattle.wire.specs.Packet.{type_a, type_b, type_c, type_d, type_e, type_f}
use Rattle.messages.specs.Message.{ScheduleRequest, ScheduleReply, Request, Reply}
use Rattle.messages.specs.Message.ScheduleRequest.{schedule_read, schedule_write, schedule_enable}
use Rattle.messages.specs.Message.ScheduleReply.{schedule_read_reply, schedule_write_reply, schedule_enable_reply}
use Rattle.messages.specs.Message.Request.{get_parameter, set_parameter, power_read, power_control, date_read, date_write, item_read, tag_write, schedule}
use Rattle.messages.specs.Message.Reply.{null, get_reply, set_reply, power_read_reply, power_control_reply, date_read_reply, date_write_reply, item_reply, tag_write_reply, schedule_reply}
use Rattle.messages.specs.declared.message.Date.{Date}
use Rattle.messages.specs.declared.message.Item.{Item}

-- ---- names

-- 01D6
abbrev pub power_read_name : List ℕ
power_read_name = 0x30 ∷ 0x31 ∷ 0x44 ∷ 0x36 ∷ []

-- C203D6
abbrev pub power_control_name : List ℕ
power_control_name = 0x43 ∷ 0x32 ∷ 0x30 ∷ 0x33 ∷ 0x44 ∷ 0x36 ∷ []

-- 02, and behind the status D6, 00, 0004
abbrev pub power_read_reply_name : List ℕ
power_read_reply_name = 0x30 ∷ 0x32 ∷ []

abbrev pub power_read_reply_fixed : List ℕ
power_read_reply_fixed = 0x44 ∷ 0x36 ∷ 0x30 ∷ 0x30 ∷ 0x30 ∷ 0x30 ∷ 0x30 ∷ 0x34 ∷ []

-- C211 and C311
abbrev pub date_read_name : List ℕ
date_read_name = 0x43 ∷ 0x32 ∷ 0x31 ∷ 0x31 ∷ []

abbrev pub date_read_reply_name : List ℕ
date_read_reply_name = 0x43 ∷ 0x33 ∷ 0x31 ∷ 0x31 ∷ []

-- C212 and C312
abbrev pub date_write_name : List ℕ
date_write_name = 0x43 ∷ 0x32 ∷ 0x31 ∷ 0x32 ∷ []

abbrev pub date_write_reply_name : List ℕ
date_write_reply_name = 0x43 ∷ 0x33 ∷ 0x31 ∷ 0x32 ∷ []

-- C216, C217, F010, F012
abbrev pub item_read_name : Item → List ℕ
item_read_name Item.Serial = 0x43 ∷ 0x32 ∷ 0x31 ∷ 0x36 ∷ []
item_read_name Item.Model = 0x43 ∷ 0x32 ∷ 0x31 ∷ 0x37 ∷ []
item_read_name Item.Tag = 0x46 ∷ 0x30 ∷ 0x31 ∷ 0x30 ∷ []
item_read_name Item.FormerTag = 0x46 ∷ 0x30 ∷ 0x31 ∷ 0x32 ∷ []

-- C316, C317, F110, F112
abbrev pub item_reply_name : Item → List ℕ
item_reply_name Item.Serial = 0x43 ∷ 0x33 ∷ 0x31 ∷ 0x36 ∷ []
item_reply_name Item.Model = 0x43 ∷ 0x33 ∷ 0x31 ∷ 0x37 ∷ []
item_reply_name Item.Tag = 0x46 ∷ 0x31 ∷ 0x31 ∷ 0x30 ∷ []
item_reply_name Item.FormerTag = 0x46 ∷ 0x31 ∷ 0x31 ∷ 0x32 ∷ []

-- F011 and F111
abbrev pub tag_write_name : List ℕ
tag_write_name = 0x46 ∷ 0x30 ∷ 0x31 ∷ 0x31 ∷ []

abbrev pub tag_write_reply_name : List ℕ
tag_write_reply_name = 0x46 ∷ 0x31 ∷ 0x31 ∷ 0x31 ∷ []

-- C221 and C321
abbrev pub schedule_read_name : List ℕ
schedule_read_name = 0x43 ∷ 0x32 ∷ 0x32 ∷ 0x31 ∷ []

abbrev pub schedule_read_reply_name : List ℕ
schedule_read_reply_name = 0x43 ∷ 0x33 ∷ 0x32 ∷ 0x31 ∷ []

-- C222 and C322
abbrev pub schedule_write_name : List ℕ
schedule_write_name = 0x43 ∷ 0x32 ∷ 0x32 ∷ 0x32 ∷ []

abbrev pub schedule_write_reply_name : List ℕ
schedule_write_reply_name = 0x43 ∷ 0x33 ∷ 0x32 ∷ 0x32 ∷ []

-- C215 and C315
abbrev pub schedule_enable_name : List ℕ
schedule_enable_name = 0x43 ∷ 0x32 ∷ 0x31 ∷ 0x35 ∷ []

abbrev pub schedule_enable_reply_name : List ℕ
schedule_enable_reply_name = 0x43 ∷ 0x33 ∷ 0x31 ∷ 0x35 ∷ []

-- BE
abbrev pub null_name : List ℕ
null_name = 0x42 ∷ 0x45 ∷ []

-- ---- texts

-- YY MM DD WW HH MN DS
unfoldable pub date_text : Date → List ℕ
date_text d =
    two d.year ++ (two d.month ++ (two d.day ++ (two d.weekday ++ (two d.hour ++ (two d.minute ++ two d.daylight)))))

-- result, page, code, operation type, max, value
unfoldable pub parameter_text : ℕ → ℕ → ℕ → ℕ → ℕ → ℕ → List ℕ
parameter_text result page code operation largest value =
    two result ++ (two page ++ (two code ++ (two operation ++ (four largest ++ four value))))

-- the program; the sixteen numbers, two digits each; the program and the enable
unfoldable pub schedule_text : ScheduleRequest → List ℕ
schedule_text (schedule_read program) = schedule_read_name ++ two program
schedule_text (schedule_write numbers) = schedule_write_name ++ hex_of numbers
schedule_text (schedule_enable program enable) = schedule_enable_name ++ (two program ++ two enable)

-- the same behind a status, where something was to change
unfoldable pub schedule_reply_text : ScheduleReply → List ℕ
schedule_reply_text (schedule_read_reply numbers) = schedule_read_reply_name ++ hex_of numbers
schedule_reply_text (schedule_write_reply status numbers) = schedule_write_reply_name ++ (two status ++ hex_of numbers)
schedule_reply_text (schedule_enable_reply status program enable) = schedule_enable_reply_name ++ (two status ++ (two program ++ two enable))

unfoldable pub request_type : Request → ℕ
request_type (get_parameter page code) = type_c
request_type (set_parameter page code value) = type_e
request_type power_read = type_a
request_type (power_control mode) = type_a
request_type date_read = type_a
request_type (date_write d) = type_a
request_type (item_read i) = type_a
request_type (tag_write tag) = type_a
request_type (schedule r) = type_a

unfoldable pub request_text : Request → List ℕ
request_text (get_parameter page code) = two page ++ two code
request_text (set_parameter page code value) = two page ++ (two code ++ four value)
request_text power_read = power_read_name
request_text (power_control mode) = power_control_name ++ four mode
request_text date_read = date_read_name
request_text (date_write d) = date_write_name ++ date_text d
request_text (item_read i) = item_read_name i
request_text (tag_write tag) = tag_write_name ++ hex_of tag
request_text (schedule r) = schedule_text r

unfoldable pub reply_type : Reply → ℕ
reply_type null = type_b
reply_type (get_reply result page code operation largest value) = type_d
reply_type (set_reply result page code operation largest value) = type_f
reply_type (power_read_reply status mode) = type_b
reply_type (power_control_reply status mode) = type_b
reply_type (date_read_reply d) = type_b
reply_type (date_write_reply status d) = type_b
reply_type (item_reply i bytes) = type_b
reply_type (tag_write_reply status tag) = type_b
reply_type (schedule_reply r) = type_b

unfoldable pub reply_text : Reply → List ℕ
reply_text null = null_name
reply_text (get_reply result page code operation largest value) = parameter_text result page code operation largest value
reply_text (set_reply result page code operation largest value) = parameter_text result page code operation largest value
reply_text (power_read_reply status mode) = power_read_reply_name ++ (two status ++ (power_read_reply_fixed ++ four mode))
reply_text (power_control_reply status mode) = two status ++ (power_control_name ++ four mode)
reply_text (date_read_reply d) = date_read_reply_name ++ date_text d
reply_text (date_write_reply status d) = date_write_reply_name ++ (two status ++ date_text d)
reply_text (item_reply i bytes) = item_reply_name i ++ hex_of bytes
reply_text (tag_write_reply status tag) = tag_write_reply_name ++ (two status ++ hex_of tag)
reply_text (schedule_reply r) = schedule_reply_text r
