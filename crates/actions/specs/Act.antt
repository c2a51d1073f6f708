-- What a good packet does (docs/RULES.md, the section of that name, AC1 to AC10, and 'Schedules', S1 to S6): to a request belong what is stored, in
-- order, and a reply, or the beginning of an erase. Anything that is no request gets NULL.
use Rattle.std.specs.Prelude.{Bool, cond, ◌&&◌, List, [], ℕ, eqb, get_or}
use Rattle.std.proofs.Math.Option.{Option, none, some}
use Rattle.plan.specs.Stores.{Entry}
use Rattle.messages.specs.Message.{ScheduleRequest, Request, Reply}
use Rattle.messages.specs.Message.ScheduleRequest.{schedule_read, schedule_write, schedule_enable}
use Rattle.messages.specs.Message.ScheduleReply.{schedule_read_reply, schedule_write_reply, schedule_enable_reply}
use Rattle.messages.specs.Message.Request.{get_parameter, set_parameter, power_read, power_control, date_read, date_write, item_read, tag_write, schedule}
use Rattle.messages.specs.Message.Reply.{null, get_reply, set_reply, power_read_reply, power_control_reply, date_read_reply, date_write_reply, item_reply, tag_write_reply, schedule_reply}
use Rattle.messages.specs.declared.message.Date.{Date}
use Rattle.messages.specs.declared.message.Item.{Item}
use Rattle.calendar.specs.Calendar.{is_accepted}
use Rattle.store.specs.Fields.{field_stores}
use Rattle.store.specs.Layout.{power}
use Rattle.store.specs.Settings.{field_of, setting_at, accepts, kept, current}
use Rattle.store.specs.Contents.{is_on, date_of, date_stores, tag_of, former_tag_of, tag_stores}
use Rattle.store.specs.declared.settings.Row.{Row}
use Rattle.schedule.specs.Programs.{program_stores, enable_stores}
use Rattle.schedule.specs.Numbers as program
use Rattle.schedule.specs.Numbers.{is_listed, is_enable, kept_fields, shown_program}
use Rattle.calls.specs.Board.{Identity}

-- what a packet brings about: a reply with bytes to store, in order, or the beginning of an erase
pub data Effect : Type 0 where
  replies : Reply → List Entry → Effect
  begins : Effect

-- a reply that changes nothing
abbrev pub says : Reply → Effect
says r = replies r []

-- F0/01, the erase
abbrev pub erase_page : ℕ
erase_page = 0xF0

abbrev pub erase_code : ℕ
erase_code = 0x01

abbrev pub is_erase : ℕ → ℕ → Bool
is_erase page code = eqb page erase_page && eqb code erase_code

-- ---- Get

abbrev pub get_listed : List ℕ → ℕ → ℕ → Option Row → Reply
get_listed m page code (some r) = get_reply 0 page code 0 r.largest (current m r)
get_listed m page code none = get_reply 1 page code 0 0 0

unfoldable pub get_effect : List ℕ → ℕ → ℕ → Effect
get_effect m page code = says (cond (is_erase page code) (get_reply 0 page code 1 1 0) (get_listed m page code (setting_at page code)))

-- ---- Set: in standby the erase alone is accepted

abbrev pub set_listed : List ℕ → ℕ → ℕ → ℕ → Option Row → Effect
set_listed m page code v (some r) =
    cond (is_on m && accepts r.values v)
    (replies (set_reply 0 page code 0 r.largest v) (field_stores m (field_of r) (kept r.values v)))
    (says (set_reply 1 page code 0 r.largest v))
set_listed m page code v none = says (set_reply 1 page code 0 0 v)

unfoldable pub set_effect : List ℕ → ℕ → ℕ → ℕ → Effect
set_effect m page code v =
    cond (is_erase page code)
    (cond (eqb v 1) begins (says (set_reply 1 page code 1 1 v)))
    (set_listed m page code v (setting_at page code))

-- ---- power: mode 1 is on, 4 standby; another mode gets status 01

unfoldable pub power_read_effect : List ℕ → Effect
power_read_effect m = says (power_read_reply 0 (cond (is_on m) 1 4))

unfoldable pub power_control_effect : List ℕ → ℕ → Effect
power_control_effect m mode =
    cond (eqb mode 1) (replies (power_control_reply 0 mode) (field_stores m power 1))
    (cond (eqb mode 4) (replies (power_control_reply 0 mode) (field_stores m power 0))
    (says (power_control_reply 1 mode)))

-- ---- date

unfoldable pub date_write_effect : List ℕ → Date → Effect
date_write_effect m d = cond (is_accepted d) (replies (date_write_reply 0 d) (date_stores m d)) (says (date_write_reply 1 d))

-- ---- serial number, model and tags

abbrev pub item_of : Identity → List ℕ → Item → List ℕ
item_of i m Item.Serial = i.serial
item_of i m Item.Model = i.model
item_of i m Item.Tag = tag_of m
item_of i m Item.FormerTag = former_tag_of m

-- ---- schedules, on or in standby

-- a program that there is not gets NULL
abbrev pub schedule_read_effect : List ℕ → ℕ → Effect
schedule_read_effect m k = says (cond (is_listed k) (schedule_reply (schedule_read_reply (shown_program m k))) null)

unfoldable pub schedule_write_effect : List ℕ → List ℕ → Effect
schedule_write_effect m numbers =
    cond (program.is_accepted numbers)
    (replies (schedule_reply (schedule_write_reply 0 numbers)) (program_stores m (get_or numbers 0 0) (kept_fields numbers)))
    (says (schedule_reply (schedule_write_reply 1 numbers)))

unfoldable pub schedule_enable_effect : List ℕ → ℕ → ℕ → Effect
schedule_enable_effect m k enable =
    cond (is_listed k && is_enable enable)
    (replies (schedule_reply (schedule_enable_reply 0 k enable)) (enable_stores m k enable))
    (says (schedule_reply (schedule_enable_reply 1 k enable)))

unfoldable pub schedule_effect : List ℕ → ScheduleRequest → Effect
schedule_effect m (schedule_read k) = schedule_read_effect m k
schedule_effect m (schedule_write numbers) = schedule_write_effect m numbers
schedule_effect m (schedule_enable k enable) = schedule_enable_effect m k enable

-- ---- all requests

unfoldable pub effect_of : Identity → List ℕ → Request → Effect
effect_of i m (get_parameter page code) = get_effect m page code
effect_of i m (set_parameter page code v) = set_effect m page code v
effect_of i m power_read = power_read_effect m
effect_of i m (power_control mode) = power_control_effect m mode
effect_of i m date_read = says (date_read_reply (date_of m))
effect_of i m (date_write d) = date_write_effect m d
effect_of i m (item_read x) = says (item_reply x (item_of i m x))
effect_of i m (tag_write tag) = replies (tag_write_reply 0 tag) (tag_stores m tag)
effect_of i m (schedule r) = schedule_effect m r

abbrev pub effect : Identity → List ℕ → Option Request → Effect
effect i m (some r) = effect_of i m r
effect i m none = says null
