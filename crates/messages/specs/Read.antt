-- What a text says (docs/RULES.md, 'What a good packet does', AC10, and 'Station', RD2): the request that a board finds in it, and the reply that
-- the station finds in it. Type and text select together; the length is exact; fields are taken apart in their order, and the first
-- that fails ends it. None: anything else, which a board answers with NULL and the station refuses with 35.
use Rattle.std.specs.Prelude.{Bool, true, false, cond, ◌&&◌, List, [], ◌∷◌, ℕ, leb, eqb, length, drop}
use Rattle.std.proofs.Math.Option.{Option, none, some, map}
use Rattle.wire.specs.Digits.{bind, two_at, four_at, octets_in}
use Rattle.messages.specs.Message.{Request, Reply, is_power_mode}
use Rattle.messages.specs.Message.ScheduleRequest.{schedule_read, schedule_write, schedule_enable}
use Rattle.messages.specs.Message.ScheduleReply.{schedule_read_reply, schedule_write_reply, schedule_enable_reply}
use Rattle.messages.specs.Message.Request.{get_parameter, set_parameter, power_read, power_control, date_read, date_write, item_read, tag_write, schedule}
use Rattle.messages.specs.Message.Reply.{null, get_reply, set_reply, power_read_reply, power_control_reply, date_read_reply, date_write_reply, item_reply, tag_write_reply, schedule_reply}
use Rattle.wire.specs.Packet.{type_a, type_b, type_c, type_d, type_e, type_f}
use Rattle.messages.specs.Text.{power_read_name, power_control_name, power_read_reply_name, power_read_reply_fixed, date_read_name, date_read_reply_name}
use Rattle.messages.specs.Text.{date_write_name, date_write_reply_name, item_read_name, item_reply_name, tag_write_name, tag_write_reply_name, null_name}
use Rattle.messages.specs.Text.{schedule_read_name, schedule_read_reply_name, schedule_write_name, schedule_write_reply_name, schedule_enable_name, schedule_enable_reply_name}
use Rattle.messages.specs.declared.message.Date.{Date}
use Rattle.messages.specs.declared.message.Item.{Item}

-- ---- parts of a text

-- the text begins with a name
unfoldable pub begins_with : List ℕ → List ℕ → Bool
begins_with [] t = true
begins_with (a ∷ name) [] = false
begins_with (a ∷ name) (b ∷ t) = eqb a b && begins_with name t

-- the text is a name
unfoldable pub is_name : List ℕ → List ℕ → Bool
is_name name t = eqb (length t) (length name) && begins_with name t

-- a result, a status or an operation type: 00 or 01
unfoldable pub flag_at : List ℕ → ℕ → Option ℕ
flag_at t at = bind (two_at t at) λ n. cond (leb n 1) (some n) none

-- the mode of a power status: 1, 2 or 4
unfoldable pub mode_at : List ℕ → ℕ → Option ℕ
mode_at t at = bind (four_at t at) λ n. cond (is_power_mode n) (some n) none

-- seven fields of two digits
unfoldable pub date_in : List ℕ → Option Date
date_in t =
    cond (eqb (length t) 14)
    (bind (two_at t 0) λ yy.
    bind (two_at t 2) λ mm.
    bind (two_at t 4) λ dd.
    bind (two_at t 6) λ ww.
    bind (two_at t 8) λ hh.
    bind (two_at t 10) λ mn.
    bind (two_at t 12) λ ds.
    some (record { year = yy; month = mm; day = dd; weekday = ww; hour = hh; minute = mn; daylight = ds }))
    none

-- sixteen numbers of two digits
unfoldable pub numbers_in : List ℕ → Option (List ℕ)
numbers_in t = cond (eqb (length t) 32) (octets_in t) none

-- ---- requests

-- type C: page, code
unfoldable pub get_in : List ℕ → Option Request
get_in t =
    cond (eqb (length t) 4)
    (bind (two_at t 0) λ page.
    bind (two_at t 2) λ code.
    some (get_parameter page code))
    none

-- type E: page, code, value
unfoldable pub set_in : List ℕ → Option Request
set_in t =
    cond (eqb (length t) 8)
    (bind (two_at t 0) λ page.
    bind (two_at t 2) λ code.
    bind (four_at t 4) λ value.
    some (set_parameter page code value))
    none

-- behind C203D6: mode
unfoldable pub power_control_in : List ℕ → Option Request
power_control_in t = cond (eqb (length t) 4) (bind (four_at t 0) λ mode. some (power_control mode)) none

-- behind C221: the program
unfoldable pub schedule_read_in : List ℕ → Option Request
schedule_read_in t = cond (eqb (length t) 2) (bind (two_at t 0) λ program. some (schedule (schedule_read program))) none

-- behind C222: the sixteen numbers
abbrev pub schedule_write_in : List ℕ → Option Request
schedule_write_in t = map (λ numbers. schedule (schedule_write numbers)) (numbers_in t)

-- behind C215: the program and the enable
unfoldable pub schedule_enable_in : List ℕ → Option Request
schedule_enable_in t =
    cond (eqb (length t) 4)
    (bind (two_at t 0) λ program.
    bind (two_at t 2) λ enable.
    some (schedule (schedule_enable program enable)))
    none

-- a value behind the name
abbrev pub value_command_in : List ℕ → Option Request
value_command_in t =
    cond (begins_with power_control_name t) (power_control_in (drop 6 t))
    (cond (begins_with date_write_name t) (map date_write (date_in (drop 4 t)))
    (cond (begins_with schedule_read_name t) (schedule_read_in (drop 4 t))
    (cond (begins_with schedule_enable_name t) (schedule_enable_in (drop 4 t)) none)))

-- type A, but for the requests that carry bytes
unfoldable pub command_in : List ℕ → Option Request
command_in t =
    cond (is_name power_read_name t) (some power_read)
    (cond (is_name date_read_name t) (some date_read)
    (cond (is_name (item_read_name Item.Serial) t) (some (item_read Item.Serial))
    (cond (is_name (item_read_name Item.Model) t) (some (item_read Item.Model))
    (cond (is_name (item_read_name Item.Tag) t) (some (item_read Item.Tag))
    (cond (is_name (item_read_name Item.FormerTag) t) (some (item_read Item.FormerTag)) (value_command_in t))))))

-- the request in a text of a type
unfoldable pub request_in : ℕ → List ℕ → Option Request
request_in kind t =
    cond (eqb kind type_c) (get_in t)
    (cond (eqb kind type_e) (set_in t)
    (cond (eqb kind type_a)
    (cond (begins_with tag_write_name t) (map tag_write (octets_in (drop 4 t)))
    (cond (begins_with schedule_write_name t) (schedule_write_in (drop 4 t)) (command_in t)))
    none))

-- ---- replies

-- types D and F: result, page, code; then operation type, max, value
abbrev pub values_in : (ℕ → ℕ → ℕ → ℕ → ℕ → ℕ → Reply) → ℕ → ℕ → ℕ → List ℕ → Option Reply
values_in reply result page code t =
    bind (flag_at t 6) λ operation.
    bind (four_at t 8) λ largest.
    bind (four_at t 12) λ value.
    some (reply result page code operation largest value)

unfoldable pub parameter_in : (ℕ → ℕ → ℕ → ℕ → ℕ → ℕ → Reply) → List ℕ → Option Reply
parameter_in reply t =
    cond (eqb (length t) 16)
    (bind (flag_at t 0) λ result.
    bind (two_at t 2) λ page.
    bind (two_at t 4) λ code.
    values_in reply result page code t)
    none

-- behind 02: status, D6 00 0004, mode
unfoldable pub power_read_reply_in : List ℕ → Option Reply
power_read_reply_in t =
    cond (eqb (length t) 14)
    (bind (flag_at t 0) λ status.
    cond (begins_with power_read_reply_fixed (drop 2 t))
    (bind (mode_at t 10) λ mode.
    some (power_read_reply status mode))
    none)
    none

-- status, C203D6, mode
unfoldable pub power_control_reply_in : List ℕ → Option Reply
power_control_reply_in t =
    cond (eqb (length t) 12)
    (bind (flag_at t 0) λ status.
    cond (begins_with power_control_name (drop 2 t))
    (bind (four_at t 8) λ mode.
    some (power_control_reply status mode))
    none)
    none

-- behind C312: status, the date
unfoldable pub date_write_reply_in : List ℕ → Option Reply
date_write_reply_in t = cond (eqb (length t) 16) (bind (flag_at t 0) λ status. map (date_write_reply status) (date_in (drop 2 t))) none

-- behind F111: status, the tag
unfoldable pub tag_write_reply_in : List ℕ → Option Reply
tag_write_reply_in t = cond (leb 2 (length t)) (bind (flag_at t 0) λ status. map (tag_write_reply status) (octets_in (drop 2 t))) none

-- behind C321: the sixteen numbers
abbrev pub schedule_read_reply_in : List ℕ → Option Reply
schedule_read_reply_in t = map (λ numbers. schedule_reply (schedule_read_reply numbers)) (numbers_in t)

-- behind C322: status, the sixteen numbers
unfoldable pub schedule_write_reply_in : List ℕ → Option Reply
schedule_write_reply_in t =
    cond (eqb (length t) 34)
    (bind (flag_at t 0) λ status.
    map (λ numbers. schedule_reply (schedule_write_reply status numbers)) (numbers_in (drop 2 t)))
    none

-- behind C315: status, the program, the enable
unfoldable pub schedule_enable_reply_in : List ℕ → Option Reply
schedule_enable_reply_in t =
    cond (eqb (length t) 6)
    (bind (flag_at t 0) λ status.
    bind (two_at t 2) λ program.
    bind (two_at t 4) λ enable.
    some (schedule_reply (schedule_enable_reply status program enable)))
    none

-- type B, replies without bytes
unfoldable pub plain_reply_in : List ℕ → Option Reply
plain_reply_in t =
    cond (is_name null_name t) (some null)
    (cond (begins_with date_read_reply_name t) (map date_read_reply (date_in (drop 4 t)))
    (cond (begins_with date_write_reply_name t) (date_write_reply_in (drop 4 t))
    (cond (begins_with schedule_enable_reply_name t) (schedule_enable_reply_in (drop 4 t))
    (cond (begins_with power_read_reply_name t) (power_read_reply_in (drop 2 t))
    (power_control_reply_in t)))))

-- type B
unfoldable pub command_reply_in : List ℕ → Option Reply
command_reply_in t =
    cond (begins_with (item_reply_name Item.Serial) t) (map (item_reply Item.Serial) (octets_in (drop 4 t)))
    (cond (begins_with (item_reply_name Item.Model) t) (map (item_reply Item.Model) (octets_in (drop 4 t)))
    (cond (begins_with (item_reply_name Item.Tag) t) (map (item_reply Item.Tag) (octets_in (drop 4 t)))
    (cond (begins_with (item_reply_name Item.FormerTag) t) (map (item_reply Item.FormerTag) (octets_in (drop 4 t)))
    (cond (begins_with tag_write_reply_name t) (tag_write_reply_in (drop 4 t))
    (cond (begins_with schedule_read_reply_name t) (schedule_read_reply_in (drop 4 t))
    (cond (begins_with schedule_write_reply_name t) (schedule_write_reply_in (drop 4 t)) (plain_reply_in t)))))))

-- the reply in a text of a type
unfoldable pub reply_in : ℕ → List ℕ → Option Reply
reply_in kind t =
    cond (eqb kind type_d) (parameter_in get_reply t)
    (cond (eqb kind type_f) (parameter_in set_reply t)
    (cond (eqb kind type_b) (command_reply_in t) none))
