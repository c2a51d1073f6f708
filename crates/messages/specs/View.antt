-- What the code's values mean (docs/RULES.md, CA1): the requests and replies that its enums stand for, with the rules' number for each case.
use Rattle.std.specs.Prelude.{ℕ}
use Rattle.wire.specs.Digits.{octets_of, Exact}
use Rattle.messages.specs.Message as message
use Rattle.messages.specs.declared.message.Status.{Status}
use Rattle.messages.specs.declared.message.PowerMode.{PowerMode}
use Rattle.messages.specs.declared.message.DateAnswer.{DateAnswer}
use Rattle.messages.specs.declared.message.ScheduleRequest.{ScheduleRequest}
use Rattle.messages.specs.declared.message.ScheduleAnswer.{ScheduleAnswer}
use Rattle.messages.specs.declared.message.Request.{Request}
use Rattle.messages.specs.declared.message.Reply.{Reply}

-- a result or a status
abbrev pub status_number : Status → ℕ
status_number Status.Acknowledged = 0
status_number Status.Refused = 1

abbrev pub mode_number : PowerMode → ℕ
mode_number PowerMode.On = 1
mode_number PowerMode.Sleep = 2
mode_number PowerMode.Standby = 4

abbrev pub schedule_request_of : ScheduleRequest → message.ScheduleRequest
schedule_request_of (ScheduleRequest.Read program) = message.schedule_read program
schedule_request_of (ScheduleRequest.Write numbers) = message.schedule_write numbers
schedule_request_of (ScheduleRequest.Enable program enable) = message.schedule_enable program enable

abbrev pub request_of : Request → message.Request
request_of (Request.Get page code) = message.get_parameter page code
request_of (Request.Set page code value) = message.set_parameter page code value
request_of Request.PowerRead = message.power_read
request_of (Request.PowerControl mode) = message.power_control mode
request_of Request.DateRead = message.date_read
request_of (Request.DateWrite d) = message.date_write d
request_of (Request.ItemRead i) = message.item_read i
request_of (Request.TagWrite tag) = message.tag_write (octets_of tag)
request_of (Request.Schedule r) = message.schedule (schedule_request_of r)

abbrev pub date_answer_of : DateAnswer → message.Reply
date_answer_of (DateAnswer.Read d) = message.date_read_reply d
date_answer_of (DateAnswer.Written o d) = message.date_write_reply (status_number o) d

abbrev pub schedule_answer_of : ScheduleAnswer → message.ScheduleReply
schedule_answer_of (ScheduleAnswer.Read numbers) = message.schedule_read_reply numbers
schedule_answer_of (ScheduleAnswer.Written o numbers) = message.schedule_write_reply (status_number o) numbers
schedule_answer_of (ScheduleAnswer.Enabled o program enable) = message.schedule_enable_reply (status_number o) program enable

abbrev pub reply_of : Reply → message.Reply
reply_of Reply.Null = message.null
reply_of (Reply.Got o p) =
    message.get_reply (status_number o) p.page p.code p.operation p.largest p.value
reply_of (Reply.Set o p) =
    message.set_reply (status_number o) p.page p.code p.operation p.largest p.value
reply_of (Reply.PowerStatus o m) = message.power_read_reply (status_number o) (mode_number m)
reply_of (Reply.PowerControl o mode) = message.power_control_reply (status_number o) mode
reply_of (Reply.Date a) = date_answer_of a
reply_of (Reply.Item i held) = message.item_reply i (octets_of held)
reply_of (Reply.TagWritten o tag) = message.tag_write_reply (status_number o) (octets_of tag)
reply_of (Reply.Schedule a) = message.schedule_reply (schedule_answer_of a)

-- how many bytes of a tag, a serial number or a model a request or a reply counts
abbrev pub request_count : Request → ℕ
request_count (Request.Get page code) = 0
request_count (Request.Set page code value) = 0
request_count Request.PowerRead = 0
request_count (Request.PowerControl mode) = 0
request_count Request.DateRead = 0
request_count (Request.DateWrite d) = 0
request_count (Request.ItemRead i) = 0
request_count (Request.TagWrite tag) = tag.count
request_count (Request.Schedule r) = 0

abbrev pub reply_count : Reply → ℕ
reply_count Reply.Null = 0
reply_count (Reply.Got o p) = 0
reply_count (Reply.Set o p) = 0
reply_count (Reply.PowerStatus o m) = 0
reply_count (Reply.PowerControl o mode) = 0
reply_count (Reply.Date a) = 0
reply_count (Reply.Item i held) = held.count
reply_count (Reply.TagWritten o tag) = tag.count
reply_count (Reply.Schedule a) = 0

-- the bytes that a request or a reply holds are as many as it counts, and zeros stand behind them
abbrev pub ExactRequest : Request → Type 0
ExactRequest (Request.Get page code) = Unit
ExactRequest (Request.Set page code value) = Unit
ExactRequest Request.PowerRead = Unit
ExactRequest (Request.PowerControl mode) = Unit
ExactRequest Request.DateRead = Unit
ExactRequest (Request.DateWrite d) = Unit
ExactRequest (Request.ItemRead i) = Unit
ExactRequest (Request.TagWrite tag) = Exact tag
ExactRequest (Request.Schedule r) = Unit

abbrev pub ExactReply : Reply → Type 0
ExactReply Reply.Null = Unit
ExactReply (Reply.Got o p) = Unit
ExactReply (Reply.Set o p) = Unit
ExactReply (Reply.PowerStatus o m) = Unit
ExactReply (Reply.PowerControl o mode) = Unit
ExactReply (Reply.Date a) = Unit
ExactReply (Reply.Item i held) = Exact held
ExactReply (Reply.TagWritten o tag) = Exact tag
ExactReply (Reply.Schedule a) = Unit
