-- The rows of the message table at a board (docs/RULES.md, 'What a good packet does', AC1 to AC11), each by packets given to an idle board: what it
-- replies, what the station reads in the reply, what is stored, and what later packets show of it. Pages, codes, values, places and modes are written
-- out; the bytes of the packets are in Examples.antt.
use Rattle.std.specs.Prelude.{Bool, true, false, cond, ◌&&◌, ◌||◌, ◌⊎◌, ◌≢◌, ◌≡◌, ℕ, ◌+◌, ◌-◌, ◌≤◌, ◌<◌, leb, ltb, eqb, length, set, take, drop, replicate}
use mathlib.Core.List.{List, [], ◌∷◌, ◌++◌, Memᴰ}
use Rattle.bitfield.specs.Field.{bit, get_field}
use Rattle.wire.specs.Digits.{Bytes, SameDigits}
use Rattle.wire.specs.Packet.{packet_with, request_packet, over, length_digits}
use Rattle.wire.specs.Judge.{is_request_type}
use Rattle.messages.specs.Message.{ScheduleRequest, ScheduleReply, Request, Reply, IsRequest, IsItem, IsDate}
use Rattle.messages.specs.Message.ScheduleRequest.{schedule_read, schedule_write, schedule_enable}
use Rattle.messages.specs.Message.ScheduleReply.{schedule_read_reply, schedule_write_reply, schedule_enable_reply}
use Rattle.messages.specs.Message.Request.{get_parameter, set_parameter, power_read, power_control, date_read, date_write, item_read, tag_write, schedule}
use Rattle.messages.specs.Message.Reply.{null, get_reply, set_reply, power_read_reply, power_control_reply, date_read_reply, date_write_reply, item_reply, tag_write_reply, schedule_reply}
use Rattle.messages.specs.Text.{request_type, request_text}
use Rattle.messages.specs.Spelling.{SpellsRequest}
use Rattle.messages.specs.declared.message.Date.{Date}
use Rattle.messages.specs.declared.message.Item.{Item}
use Rattle.calendar.specs.Calendar.{days_in, weekday_of}
use Rattle.calls.specs.Board.{Identity, Answer, silent, begun, reply, idle, pending, after}
use Rattle.calls.specs.Calls.{is_sound, on_call}
use Rattle.calls.specs.Lists.{answered, started, unstarted, run}
use Rattle.packets.specs.Packets.{BoardState, holding}
use Rattle.board.specs.BoardKind.{byte, board_kind}
use Rattle.board.specs.Demand3.{Events, Trace, erase_request}
use Rattle.board.specs.ByteCalls.{byte_calls, waits}
use Rattle.station.specs.Read as station

-- ---- a board at rest

-- 'idle' of the rules (docs/RULES.md, ST4): sound, no erase pending, nothing held
pub record Idle (s : BoardState) (m : List ℕ) : Type 0 where
  pub sound : is_sound board_kind s m ≡ true
  pub resting : s.erase ≡ idle
  pub empty : s.held ≡ []

-- numbers of a board that are bytes, as its arrays hold them
pub record InBytes (i : Identity) (m : List ℕ) : Type 0 where
  pub serial : Bytes i.serial
  pub model : Bytes i.model
  pub store : Bytes m

-- an idle board of an identity with a store
pub record Ready (i : Identity) (m : List ℕ) : Type 0 where
  pub rests : Idle (holding i []) m
  pub in_bytes : InBytes i m

-- ---- a packet and its reply

-- A packet of a type with length digits and a text, given whole to an idle board with lent buffers of 64 bytes or more, is waited on up to its last byte.
-- Sent to the board's ID it then gets a reply, in which the station reads x from that ID; to ALL it gets none. Either way the store is m', and the board idle.
pub record Exchange (i : Identity) (m : List ℕ) (kind : ℕ) (digits text : List ℕ) (x : Reply) (m' : List ℕ) : Type 0 where
  pub sent : List ℕ
  pub replied : (lent : ℕ → List ℕ) → ((k : ℕ) → 64 ≤ length (lent k)) → (es : Events)
      → run board_kind i (holding i []) m (byte_calls lent 0 (packet_with (0x40 + i.id) 0x30 kind digits text) ++ es)
      ≡ waits lent m 0 (length text + 10)
      ++ (answered (reply (length sent)) (over sent (lent (length text + 10))) m' ∷ run board_kind i (holding i []) m' es)
  pub read : station.read_packet sent ≡ station.reply i.id x
  pub silently : (lent : ℕ → List ℕ) → ((k : ℕ) → 64 ≤ length (lent k)) → (es : Events)
      → run board_kind i (holding i []) m (byte_calls lent 0 (packet_with 0x2A 0x30 kind digits text) ++ es)
      ≡ waits lent m 0 (length text + 10) ++ (answered silent (lent (length text + 10)) m' ∷ run board_kind i (holding i []) m' es)
  pub rests : Idle (holding i []) m'

-- a request, as it is written, gets x and leaves m'
abbrev pub Asks : Identity → List ℕ → Request → Reply → List ℕ → Type 0
Asks i m r x m' = Exchange i m (request_type r) (length_digits (request_text r)) (request_text r) x m'

-- and where it changes nothing, it shows x
abbrev pub Shows : Identity → List ℕ → Request → Reply → Type 0
Shows i m r x = Asks i m r x m

-- ---- a request that stores

-- the requests that only read
abbrev pub is_schedule_read : ScheduleRequest → Bool
is_schedule_read (schedule_read k) = true
is_schedule_read (schedule_write numbers) = false
is_schedule_read (schedule_enable k enable) = false

abbrev pub is_read : Request → Bool
is_read (get_parameter page code) = true
is_read (set_parameter page code v) = false
is_read power_read = true
is_read (power_control mode) = false
is_read date_read = true
is_read (date_write d) = false
is_read (item_read x) = true
is_read (tag_write tag) = false
is_read (schedule r) = is_schedule_read r

-- what is heard of a run: the answers and the lent buffers, and not what is stored
unfoldable pub heard : Trace → List (Answer ℕ × List ℕ)
heard [] = []
heard (answered a lent m ∷ os) = (a, lent) ∷ heard os
heard (started m ∷ os) = heard os
heard (unstarted n ∷ os) = heard os

-- all reads but those that may move get from m' what they get from m, and every bit but those that may change is as it was
pub record Kept (mayMove : Request → Bool) (mayChange : ℕ → Bool) (i : Identity) (m m' : List ℕ) : Type 0 where
  pub reads : (r : Request) → IsRequest r → is_read r ≡ true → mayMove r ≡ false → (lent : ℕ → List ℕ) → ((k : ℕ) → 64 ≤ length (lent k))
      → heard (run board_kind i (holding i []) m' (byte_calls lent 0 (request_packet (0x40 + i.id) (request_type r) (request_text r))))
      ≡ heard (run board_kind i (holding i []) m (byte_calls lent 0 (request_packet (0x40 + i.id) (request_type r) (request_text r))))
  pub bits : (k : ℕ) → mayChange k ≡ false → bit m' k ≡ bit m k

-- a request that gets x and stores something: the board is ready again, and what holds of its store
pub record Changes (i : Identity) (m : List ℕ) (r : Request) (x : Reply) (mayMove : Request → Bool) (mayChange : ℕ → Bool) (Then : List ℕ → Type 0) : Type 0 where
  pub left : List ℕ
  pub asked : Asks i m r x left
  pub ready : Ready i left
  pub kept : Kept mayMove mayChange i m left
  pub shown : Then left

-- some bits from one on
abbrev pub is_within : ℕ → ℕ → ℕ → Bool
is_within at width k = leb at k && ltb k (at + width)

-- ---- the settings

-- page, code, first bit and width of its field, max, and the values that a Set accepts
pub record Setting : Type 0 where
  pub page : ℕ
  pub code : ℕ
  pub at : ℕ
  pub width : ℕ
  pub largest : ℕ
  pub takes : ℕ → Bool

abbrev setting : ℕ → ℕ → ℕ → ℕ → ℕ → (ℕ → Bool) → Setting
setting page code at width largest takes = record { page = page; code = code; at = at; width = width; largest = largest; takes = takes }

abbrev between : ℕ → ℕ → ℕ → Bool
between least most v = leb least v && leb v most

abbrev pub table : List Setting
table =
    setting 0x00 0x10 8 7 100 (between 0 100)
    ∷ setting 0x00 0x60 15 2 17 (λ v. eqb v 1 || (eqb v 3 || (eqb v 4 || eqb v 17)))
    ∷ setting 0x00 0x93 17 6 60 (between 0 60)
    ∷ setting 0x02 0x74 23 7 100 (between 0 100)
    ∷ setting 0x02 0x75 30 7 100 (between 0 100)
    ∷ setting 0x10 0x33 37 7 100 (between 0 100)
    ∷ setting 0x10 0x34 44 7 100 (between 0 100)
    ∷ setting 0x10 0x4A 51 2 2 (between 1 2)
    ∷ []

-- no setting, nor the erase
abbrev pub IsUnlisted : ℕ → ℕ → Type 0
IsUnlisted page code = ((t : Setting) → Memᴰ t table → (page ≡ t.page) × (code ≡ t.code) → ⊥) × ((page ≡ 0xF0) × (code ≡ 0x01) → ⊥)

abbrev pub is_input : ℕ → ℕ → Bool
is_input page code = eqb page 0x00 && eqb code 0x60

-- what a Get shows of the number in a setting's field: inputs 1, 3 and 17 are kept as 0, 1 and 2
abbrev pub shown_of : ℕ → ℕ → ℕ → ℕ
shown_of page code k = cond (is_input page code) (cond (eqb k 0) 1 (cond (eqb k 1) 3 17)) k

-- what a Get shows after a Set: the value, but 17 for input 4
abbrev pub shown_after : ℕ → ℕ → ℕ → ℕ
shown_after page code v = cond (is_input page code && eqb v 4) 17 v

abbrev pub is_get_of : ℕ → ℕ → Request → Bool
is_get_of page code (get_parameter page' code') = eqb page' page && eqb code' code
is_get_of page code (set_parameter page' code' v) = false
is_get_of page code power_read = false
is_get_of page code (power_control mode) = false
is_get_of page code date_read = false
is_get_of page code (date_write d) = false
is_get_of page code (item_read x) = false
is_get_of page code (tag_write tag) = false
is_get_of page code (schedule r) = false

-- ---- power, date and tags

-- the board is on, or in standby
abbrev pub IsOn : List ℕ → Type 0
IsOn m = get_field m 53 1 ≡ 1

abbrev pub IsStandby : List ℕ → Type 0
IsStandby m = get_field m 53 1 ≡ 0

abbrev pub is_power_read : Request → Bool
is_power_read (get_parameter page code) = false
is_power_read (set_parameter page code v) = false
is_power_read power_read = true
is_power_read (power_control mode) = false
is_power_read date_read = false
is_power_read (date_write d) = false
is_power_read (item_read x) = false
is_power_read (tag_write tag) = false
is_power_read (schedule r) = false

-- the date in a store; DS is 0
abbrev pub date_in : List ℕ → Date
date_in m =
    record {
      year = get_field m 54 7;
      month = get_field m 61 4;
      day = get_field m 65 5;
      weekday = get_field m 70 3;
      hour = get_field m 73 5;
      minute = get_field m 78 6;
      daylight = 0;
    }

-- the dates that a date write accepts; Demand2.antt says which days these are without the count of days that `weekday_of` is made of
abbrev pub takes_date : Date → Bool
takes_date d =
    between 0 99 d.year && between 1 12 d.month && between 1 (days_in d.year d.month) d.day
    && eqb d.weekday (weekday_of d.year d.month d.day) && between 0 23 d.hour && between 0 59 d.minute && eqb d.daylight 0

abbrev pub is_date_read : Request → Bool
is_date_read (get_parameter page code) = false
is_date_read (set_parameter page code v) = false
is_date_read power_read = false
is_date_read (power_control mode) = false
is_date_read date_read = true
is_date_read (date_write d) = false
is_date_read (item_read x) = false
is_date_read (tag_write tag) = false
is_date_read (schedule r) = false

-- the tag and the former tag in a store
abbrev pub tag_in : List ℕ → List ℕ
tag_in m = take (get_field m 84 5) (drop 12 m)

abbrev pub former_tag_in : List ℕ → List ℕ
former_tag_in m = take (get_field m 89 5) (drop 28 m)

abbrev pub is_tag : Item → Bool
is_tag Item.Serial = false
is_tag Item.Model = false
is_tag Item.Tag = true
is_tag Item.FormerTag = true

abbrev pub is_tag_read : Request → Bool
is_tag_read (get_parameter page code) = false
is_tag_read (set_parameter page code v) = false
is_tag_read power_read = false
is_tag_read (power_control mode) = false
is_tag_read date_read = false
is_tag_read (date_write d) = false
is_tag_read (item_read x) = is_tag x
is_tag_read (tag_write tag) = false
is_tag_read (schedule r) = false

-- lengths in bits 84 to 93, tags in bytes 12 to 43
abbrev pub may_change_tags : ℕ → Bool
may_change_tags k = is_within 84 10 k || is_within 96 256 k

pub record TagsMoved (i : Identity) (m tag m' : List ℕ) : Type 0 where
  pub tag_shown_law : Shows i m' (item_read Item.Tag) (item_reply Item.Tag tag)
  pub former_shown_law : Shows i m' (item_read Item.FormerTag) (item_reply Item.FormerTag (tag_in m))
  pub tag_bytes : take 16 (drop 12 m') ≡ tag ++ replicate (16 - length tag) 0x00
  pub former_bytes : take 16 (drop 28 m') ≡ take 16 (drop 12 m)

-- ---- the erase

-- the request to the board's ID, after which the last step owes the reply, and to ALL
pub record BeginsErase (i : Identity) (m : List ℕ) : Type 0 where
  pub by_id : (lent : ℕ → List ℕ) → ((k : ℕ) → 64 ≤ length (lent k)) → (es : Events)
      → run board_kind i (holding i []) m (byte_calls lent 0 (erase_request (0x40 + i.id)) ++ es)
      ≡ waits lent m 0 18 ++ (answered begun (lent 18) (set m 0 0xE7) ∷ run board_kind i (record { ident = i; held = []; erase = pending 1 true }) (set m 0 0xE7) es)
  pub by_all : (lent : ℕ → List ℕ) → ((k : ℕ) → 64 ≤ length (lent k)) → (es : Events)
      → run board_kind i (holding i []) m (byte_calls lent 0 (erase_request 0x2A) ++ es)
      ≡ waits lent m 0 18 ++ (answered begun (lent 18) (set m 0 0xE7) ∷ run board_kind i (record { ident = i; held = []; erase = pending 1 false }) (set m 0 0xE7) es)

-- ---- what is refused

-- the type of no request, or a text that spells none of this type
abbrev pub IsOther : ℕ → List ℕ → Type 0
IsOther kind text = (r : Request) → IsRequest r → (request_type r ≡ kind) × SpellsRequest r text → ⊥

-- result 01, status 01 or NULL
abbrev pub is_schedule_refusal : ScheduleReply → Bool
is_schedule_refusal (schedule_read_reply numbers) = false
is_schedule_refusal (schedule_write_reply status numbers) = eqb status 1
is_schedule_refusal (schedule_enable_reply status k enable) = eqb status 1

abbrev pub is_refusal : Reply → Bool
is_refusal null = true
is_refusal (get_reply result page code operation largest value) = eqb result 1
is_refusal (set_reply result page code operation largest value) = eqb result 1
is_refusal (power_read_reply status mode) = eqb status 1
is_refusal (power_control_reply status mode) = eqb status 1
is_refusal (date_read_reply d) = false
is_refusal (date_write_reply status d) = eqb status 1
is_refusal (item_reply x bytes) = false
is_refusal (tag_write_reply status tag) = eqb status 1
is_refusal (schedule_reply r) = is_schedule_refusal r

-- ---- the rows

-- of an idle board with identity i and store m
pub record Rows (i : Identity) (m : List ℕ) : Type 0 where
  -- Get: a setting's value; a pair that is not listed; the erase
  pub get : (t : Setting) → Memᴰ t table
      → Shows i m (get_parameter t.page t.code)
      (get_reply 0 t.page t.code 0 t.largest (shown_of t.page t.code (get_field m t.at t.width)))
  pub get_unlisted_law : (page code : ℕ) → page < 256 → code < 256 → IsUnlisted page code → Shows i m (get_parameter page code) (get_reply 1 page code 0 0 0)
  pub get_erase : Shows i m (get_parameter 0xF0 0x01) (get_reply 0 0xF0 0x01 1 1 0)
  -- Set: on, a value that is accepted shows in the next Get and moves nothing else
  pub set : (t : Setting) → Memᴰ t table → (v : ℕ) → IsOn m → t.takes v ≡ true
      → Changes i m (set_parameter t.page t.code v) (set_reply 0 t.page t.code 0 t.largest v) (is_get_of t.page t.code)
      (is_within t.at t.width) (λ m'. Shows i m' (get_parameter t.page t.code) (get_reply 0 t.page t.code 0 t.largest (shown_after t.page t.code v)))
  -- another value, and every Set in standby, gets result 01; so does a pair that is not listed, and the erase with another value than 1
  pub set_refused : (t : Setting) → Memᴰ t table → (v : ℕ) → v < 65536 → (t.takes v ≡ false) ⊎ IsStandby m
      → Asks i m (set_parameter t.page t.code v) (set_reply 1 t.page t.code 0 t.largest v) m
  pub set_unlisted : (page code v : ℕ) → page < 256 → code < 256 → v < 65536 → IsUnlisted page code
      → Asks i m (set_parameter page code v) (set_reply 1 page code 0 0 v) m
  pub set_erase_refused : (v : ℕ) → v < 65536 → v ≢ 1 → Asks i m (set_parameter 0xF0 0x01 v) (set_reply 1 0xF0 0x01 1 1 v) m
  -- with 1 an erase begins, on or in standby: E7h in byte 0, and demand 3 says what follows
  pub set_erase : BeginsErase i m
  -- power: 1 is on, 4 is standby
  pub power_on : IsOn m → Shows i m power_read (power_read_reply 0 1)
  pub power_standby : IsStandby m → Shows i m power_read (power_read_reply 0 4)
  pub power_control_law : (mode : ℕ) → (mode ≡ 1) ⊎ (mode ≡ 4)
      → Changes i m (power_control mode) (power_control_reply 0 mode) is_power_read (is_within 53 1) (λ m'. Shows i m' power_read (power_read_reply 0 mode))
  pub power_refused : (mode : ℕ) → mode < 65536 → mode ≢ 1 → mode ≢ 4 → Asks i m (power_control mode) (power_control_reply 1 mode) m
  -- date
  pub date_read_law : Shows i m date_read (date_read_reply (date_in m))
  pub date_write_law : (d : Date) → takes_date d ≡ true
      → Changes i m (date_write d) (date_write_reply 0 d) is_date_read (is_within 54 30) (λ m'. Shows i m' date_read (date_read_reply d))
  pub date_refused : (d : Date) → IsDate d → takes_date d ≡ false → Asks i m (date_write d) (date_write_reply 1 d) m
  -- serial number and model
  pub serial_read : Shows i m (item_read Item.Serial) (item_reply Item.Serial i.serial)
  pub model_read : Shows i m (item_read Item.Model) (item_reply Item.Model i.model)
  -- tags: F010 shows the new one, F012 the one before; in the store the new one has 00h behind it, and the old one's 16 bytes are the former one's
  pub tag_read : Shows i m (item_read Item.Tag) (item_reply Item.Tag (tag_in m))
  pub former_read : Shows i m (item_read Item.FormerTag) (item_reply Item.FormerTag (former_tag_in m))
  pub tag_write_law : (tag : List ℕ) → IsItem tag → Changes i m (tag_write tag) (tag_write_reply 0 tag) is_tag_read may_change_tags (TagsMoved i m tag)
  -- what spells no request, its length in either case
  pub other : (kind : ℕ) (digits text : List ℕ) → SameDigits (length_digits text) digits → is_request_type kind ≡ true
      → 2 ≤ length text → length text ≤ 62 → IsOther kind text → Exchange i m kind digits text null m

-- of any board: a reply in which the station reads a refusal leaves every stored byte
abbrev pub RefusalKeeps : Type 0
RefusalKeeps = (b : ℕ) (s : BoardState) (m lent : List ℕ) (n : ℕ) (x : Reply) → InBytes s.ident m
    → (on_call board_kind (byte b) s m lent).answer ≡ reply n
    → station.read_packet (take n (on_call board_kind (byte b) s m lent).buffer) ≡ station.reply s.ident.id x
    → is_refusal x ≡ true → after (on_call board_kind (byte b) s m lent) m ≡ m
