-- DEMAND 2 in C's numbers (docs/RULES.md, 'Demand 2', XC3 and L3): what the host program passes to the encoder goes to a board, and what it gets from
-- the reader are that board's own values. Kinds, places, pages, codes and ranges are written out; `table`, the board's rows, is Rows.antt's.
use Rattle.std.specs.Prelude.{Bool, true, false, cond, ◌&&◌, List, [], ◌∷◌, ◌++◌, ◌⊎◌, ◌≡◌, ℕ, zero, suc, ◌+◌, ◌-◌, ◌≤◌, ◌<◌, eqb, length, take, replicate}
use Rattle.std.proofs.Math.Option.{Option, none, some}
use Rattle.bitfield.specs.Field.{get_field}
use Rattle.wire.specs.Digits.{Bytes}
use Rattle.wire.specs.Packet.{reply_packet, over}
use Rattle.messages.specs.Message.{ScheduleReply, Reply, IsRequest, IsItem, reply_bytes}
use Rattle.messages.specs.Message.ScheduleReply.{schedule_read_reply, schedule_write_reply, schedule_enable_reply}
use Rattle.messages.specs.Message.Reply.{null, get_reply, set_reply, power_read_reply, power_control_reply, date_read_reply, date_write_reply, item_reply, tag_write_reply, schedule_reply}
use Rattle.messages.specs.Text.{reply_type, reply_text}
use Rattle.messages.specs.Spelling.{SpeltReply}
use Rattle.messages.specs.declared.message.Date.{Date}
use Rattle.calls.specs.Board.{Identity, Answer, waiting, silent, begun, more, ended, reply}
use Rattle.calls.specs.Lists.{step, answered, started, unstarted, run}
use Rattle.packets.specs.Packets.{BoardState, holding}
use Rattle.board.specs.BoardKind.{board_kind}
use Rattle.board.specs.Demand3.{Events, Trace, unused_bytes}
use Rattle.board.specs.ByteCalls.{byte_calls, waits}
use Rattle.station.specs.Encode.{Encoding, sends, refused}
use Rattle.station.specs.Read as station
use Rattle.station.specs.Read.{reply_size}
use Rattle.station_c.specs.Encode.{Call, encode_get, encode_set, encode_power_read, encode_power_control, encode_date_read, encode_date_write}
use Rattle.station_c.specs.Encode.{encode_serial_read, encode_model_read, encode_tag_read, encode_former_tag_read, encode_tag_write}
use Rattle.station_c.specs.Encode.{encode_schedule_read, encode_schedule_write, encode_schedule_enable}
use Rattle.station_c.specs.Encode.{request_for, encoding_for, EncodesForC}
use Rattle.station_c.specs.Checks.{is_taken}
use Rattle.station_c.specs.Read.{reply_kind, numbers_of, read_into, ReadsForC}
use Rattle.exchange.specs.Rows.{InBytes, Ready, Setting, table, shown_of, shown_after, tag_in, former_tag_in, heard}
use Rattle.exchange.specs.ScheduleRows.{program_in, enabled_in}

-- ---- what C passes

-- the values of C's types: uint8_t, uint16_t and bytes
abbrev pub IsPassed : Call → Type 0
IsPassed (encode_get page code) = (page < 256) × (code < 256)
IsPassed (encode_set page code value) = (page < 256) × (code < 256) × (value < 65536)
IsPassed encode_power_read = Unit {0}
IsPassed (encode_power_control mode) = mode < 65536
IsPassed encode_date_read = Unit {0}
IsPassed (encode_date_write yy mm dd ww hh mn ds) =
    (yy < 256) × (mm < 256) × (dd < 256) × (ww < 256) × (hh < 256) × (mn < 256) × (ds < 256)
IsPassed encode_serial_read = Unit {0}
IsPassed encode_model_read = Unit {0}
IsPassed encode_tag_read = Unit {0}
IsPassed encode_former_tag_read = Unit {0}
IsPassed (encode_tag_write tag) = Bytes tag
IsPassed (encode_schedule_read k) = k < 256
IsPassed (encode_schedule_write k on-hour on-minute off-hour off-minute input week flags) =
    (k < 256) × (on-hour < 256) × (on-minute < 256) × (off-hour < 256) × (off-minute < 256) × (input < 256) × (week < 256) × (flags < 256)
IsPassed (encode_schedule_enable k enable) = (k < 256) × (enable < 256)

abbrev pub is_erase : ℕ → ℕ → Bool
is_erase page code = eqb page 0xF0 && eqb code 0x01

-- the Set that begins an erase
abbrev pub is_erase_call : Call → Bool
is_erase_call (encode_get page code) = false
is_erase_call (encode_set page code value) = is_erase page code && eqb value 1
is_erase_call encode_power_read = false
is_erase_call (encode_power_control mode) = false
is_erase_call encode_date_read = false
is_erase_call (encode_date_write yy mm dd ww hh mn ds) = false
is_erase_call encode_serial_read = false
is_erase_call encode_model_read = false
is_erase_call encode_tag_read = false
is_erase_call encode_former_tag_read = false
is_erase_call (encode_tag_write tag) = false
is_erase_call (encode_schedule_read k) = false
is_erase_call (encode_schedule_write k on-hour on-minute off-hour off-minute input week flags) = false
is_erase_call (encode_schedule_enable k enable) = false

abbrev pub IsSent : Encoding → Type 0
IsSent (sends packet) = Unit {0}
IsSent (refused n) = ⊥

-- the result 0, the packet at the start of any lent buffer of 64 bytes or more, and its length in its place
abbrev pub Encoded : ℕ → Call → List ℕ → Type 0
Encoded dest c packet = (out : List ℕ) (size : ℕ) → 64 ≤ length out → EncodesForC (encoding_for (length out) dest c) 0 out (over packet out) size (length packet)

-- ---- what C is told

-- a kind, numbers and bytes
pub record Told : Type 0 where
  pub kind : ℕ
  pub numbers : List ℕ
  pub bytes : List ℕ

abbrev told : ℕ → List ℕ → List ℕ → Told
told kind numbers bytes = record { kind = kind; numbers = numbers; bytes = bytes }

-- Any first bytes of the packet, seven or more, tell its end; and lent 9 numbers and 16 bytes or more, the reader leaves this, the rest as it was.
pub record IsTold (packet : List ℕ) (t : Told) : Type 0 where
  pub framed : (n : ℕ) → 7 ≤ n → n ≤ length packet → reply_size (take n packet) ≡ length packet
  pub read : (numbers bytes : List ℕ) (count : ℕ) → 9 ≤ length numbers → 16 ≤ length bytes
      → ReadsForC (read_into (length numbers) (length bytes) packet) t.kind
      numbers (over t.numbers numbers) bytes (over t.bytes bytes) count (length t.bytes)

-- the row of a page and code
unfoldable pub row_at : List Setting → ℕ → ℕ → Option Setting
row_at [] page code = none
row_at (t ∷ ts) page code = cond (eqb t.page page && eqb t.code code) (some t) (row_at ts page code)

abbrev pub is_on : List ℕ → Bool
is_on m = eqb (get_field m 53 1) 1

-- result, page, code, operation type, max and value of a Get, and of a Set
abbrev pub got : Option Setting → ℕ → ℕ → List ℕ → List ℕ
got (some t) page code m = 0 ∷ page ∷ code ∷ 0 ∷ t.largest ∷ shown_of page code (get_field m t.at t.width) ∷ []
got none page code m = cond (is_erase page code) (0 ∷ page ∷ code ∷ 1 ∷ 1 ∷ 0 ∷ []) (1 ∷ page ∷ code ∷ 0 ∷ 0 ∷ 0 ∷ [])

abbrev pub set : Option Setting → ℕ → ℕ → ℕ → List ℕ → List ℕ
set (some t) page code v m = cond (is_on m && t.takes v) 0 1 ∷ page ∷ code ∷ 0 ∷ t.largest ∷ v ∷ []
set none page code v m = cond (is_erase page code) (1 ∷ page ∷ code ∷ 1 ∷ 1 ∷ v ∷ []) (1 ∷ page ∷ code ∷ 0 ∷ 0 ∷ v ∷ [])

-- the sixteen numbers of a program that is passed
abbrev pub passed_program : (k on-hour on-minute off-hour off-minute input week flags : ℕ) → List ℕ
passed_program k on-hour on-minute off-hour off-minute input week flags =
    k ∷ on-hour ∷ on-minute ∷ off-hour ∷ off-minute ∷ input ∷ week ∷ flags ∷ replicate 8 0

-- what a board with an identity and a store tells of itself, its ID first
abbrev pub tells : Identity → List ℕ → Call → Told
tells i m (encode_get page code) = told 102 (i.id ∷ got (row_at table page code) page code m) []
tells i m (encode_set page code v) = told 103 (i.id ∷ set (row_at table page code) page code v m) []
tells i m encode_power_read = told 104 (i.id ∷ 0 ∷ cond (is_on m) 1 4 ∷ []) []
tells i m (encode_power_control mode) = told 105 (i.id ∷ 0 ∷ mode ∷ []) []
tells i m encode_date_read =
    told 106
    (i.id ∷ get_field m 54 7 ∷ get_field m 61 4 ∷ get_field m 65 5 ∷ get_field m 70 3 ∷ get_field m 73 5 ∷ get_field m 78 6 ∷ 0 ∷ []) []
tells i m (encode_date_write yy mm dd ww hh mn ds) = told 107 (i.id ∷ 0 ∷ yy ∷ mm ∷ dd ∷ ww ∷ hh ∷ mn ∷ ds ∷ []) []
tells i m encode_serial_read = told 108 (i.id ∷ []) i.serial
tells i m encode_model_read = told 109 (i.id ∷ []) i.model
tells i m encode_tag_read = told 110 (i.id ∷ []) (tag_in m)
tells i m encode_former_tag_read = told 111 (i.id ∷ []) (former_tag_in m)
tells i m (encode_tag_write tag) = told 112 (i.id ∷ 0 ∷ []) tag
tells i m (encode_schedule_read k) = told 113 (i.id ∷ []) (program_in m k)
tells i m (encode_schedule_write k on-hour on-minute off-hour off-minute input week flags) =
    told 114 (i.id ∷ 0 ∷ []) (passed_program k on-hour on-minute off-hour off-minute input week flags)
tells i m (encode_schedule_enable k enable) = told 115 (i.id ∷ 0 ∷ k ∷ enable ∷ []) []

-- ---- from end to end

-- A call encoded to the board's ID, its packet fed to the idle board with any buffers of 64 bytes or more: the board waits up to the last byte, replies,
-- and rests with the store `left`. In the reply the reader tells C this.
pub record ById (i : Identity) (m : List ℕ) (c : Call) (t : Told) (left : List ℕ) : Type 0 where
  pub packet : List ℕ
  pub encoded : Encoded i.id c packet
  pub sent : List ℕ
  pub replied : (lent : ℕ → List ℕ) → ((k : ℕ) → 64 ≤ length (lent k)) → (es : Events)
      → run board_kind i (holding i []) m (byte_calls lent 0 packet ++ es)
      ≡ waits lent m 0 (length packet - 1)
      ++ (answered (reply (length sent)) (over sent (lent (length packet - 1))) left ∷ run board_kind i (holding i []) left es)
  pub is_told_law : IsTold sent t

-- the same call encoded to ALL: the same store is left, and no byte of a lent buffer is written
pub record ToAll (i : Identity) (m : List ℕ) (c : Call) (left : List ℕ) : Type 0 where
  pub packet : List ℕ
  pub encoded : Encoded 256 c packet
  pub silently : (lent : ℕ → List ℕ) → ((k : ℕ) → 64 ≤ length (lent k)) → (es : Events)
      → run board_kind i (holding i []) m (byte_calls lent 0 packet ++ es)
      ≡ waits lent m 0 (length packet - 1) ++ (answered silent (lent (length packet - 1)) left ∷ run board_kind i (holding i []) left es)

-- a call that only reads, and the read that shows what a call stored; both leave every byte
abbrev pub Reads : Identity → List ℕ → Call → Told → Type 0
Reads i m c t = ById i m c t m

-- whether a Set of a value is accepted
abbrev pub accepts : Option Setting → ℕ → List ℕ → Bool
accepts (some t) v m = is_on m && t.takes v
accepts none v m = false

-- the store that a Set leaves: as it was, or one of which the next Get tells the value, 17 for input 4
pub record SetLeaves (i : Identity) (m : List ℕ) (page code v : ℕ) (left : List ℕ) : Type 0 where
  pub kept : accepts (row_at table page code) v m ≡ false → left ≡ m
  pub stored : (t : Setting) → row_at table page code ≡ some t → accepts (some t) v m ≡ true
      → Reads i left (encode_get page code) (told 102 (i.id ∷ 0 ∷ page ∷ code ∷ 0 ∷ t.largest ∷ shown_after page code v ∷ []) [])

-- the store that a call leaves: as it was, or one of which the next read tells what was passed
abbrev pub Leaves : Identity → List ℕ → Call → List ℕ → Type 0
Leaves i m (encode_get page code) left = left ≡ m
Leaves i m (encode_set page code v) left = SetLeaves i m page code v left
Leaves i m encode_power_read left = left ≡ m
Leaves i m (encode_power_control mode) left = Reads i left encode_power_read (told 104 (i.id ∷ 0 ∷ mode ∷ []) [])
Leaves i m encode_date_read left = left ≡ m
Leaves i m (encode_date_write yy mm dd ww hh mn ds) left =
    Reads i left encode_date_read (told 106 (i.id ∷ yy ∷ mm ∷ dd ∷ ww ∷ hh ∷ mn ∷ ds ∷ []) [])
Leaves i m encode_serial_read left = left ≡ m
Leaves i m encode_model_read left = left ≡ m
Leaves i m encode_tag_read left = left ≡ m
Leaves i m encode_former_tag_read left = left ≡ m
Leaves i m (encode_tag_write tag) left =
    Reads i left encode_tag_read (told 110 (i.id ∷ []) tag) × Reads i left encode_former_tag_read (told 111 (i.id ∷ []) (tag_in m))
Leaves i m (encode_schedule_read k) left = left ≡ m
Leaves i m (encode_schedule_write k on-hour on-minute off-hour off-minute input week flags) left =
    Reads i left (encode_schedule_read k) (told 113 (i.id ∷ []) (passed_program k on-hour on-minute off-hour off-minute input week flags))
Leaves i m (encode_schedule_enable k enable) left = Reads i left (encode_schedule_read k) (told 113 (i.id ∷ []) (enabled_in m k enable))

-- the board's own values are told, and what C passed is what the board then tells
pub record Exchanged (i : Identity) (m : List ℕ) (c : Call) : Type 0 where
  pub left : List ℕ
  pub by_id : ById i m c (tells i m c) left
  pub to_all_law : ToAll i m c left
  pub leaves : Leaves i m c left
  pub ready : Ready i left

-- ---- the erase

-- n steps, the first lent the buffer k
unfoldable pub steps : (ℕ → List ℕ) → ℕ → ℕ → Events
steps lent k zero = []
steps lent k (suc n) = step (lent k) ∷ steps lent (suc k) n

-- answers, each with its lent buffer untouched, the first of them k
unfoldable pub untouched : (ℕ → List ℕ) → ℕ → List (Answer ℕ) → List (Answer ℕ × List ℕ)
untouched lent k [] = []
untouched lent k (a ∷ rest) = (a, lent k) ∷ untouched lent (suc k) rest

-- A packet, 128 steps behind it and whatever comes then: the board waits, says that the erase began, and 127 times that there is more, while nothing is
-- sent. With the last step this is seen, the store is an unused board's, and the board rests.
pub record Erases (i : Identity) (m packet : List ℕ) (lent : ℕ → List ℕ) (es : Events) (last : Answer ℕ) (buffer : List ℕ) : Type 0 where
  pub before : Trace
  pub quiet : heard before ≡ untouched lent 0 (replicate (length packet - 1) waiting ++ (begun ∷ replicate 127 more))
  pub seen : run board_kind i (holding i []) m (byte_calls lent 0 packet ++ (steps lent (length packet) 128 ++ es))
      ≡ before ++ (answered last buffer unused_bytes ∷ run board_kind i (holding i []) unused_bytes es)

-- the erase encoded to the board's ID: the reply comes with the 128th step
pub record ErasesById (i : Identity) (m : List ℕ) : Type 0 where
  pub packet : List ℕ
  pub encoded : Encoded i.id (encode_set 0xF0 0x01 1) packet
  pub sent : List ℕ
  pub erases : (lent : ℕ → List ℕ) → ((k : ℕ) → 64 ≤ length (lent k)) → (es : Events)
      → Erases i m packet lent es (reply (length sent)) (over sent (lent (length packet + 127)))
  pub is_told_law : IsTold sent (told 103 (i.id ∷ 0 ∷ 0xF0 ∷ 0x01 ∷ 1 ∷ 1 ∷ 1 ∷ []) [])

-- and to ALL: it ends in silence
pub record ErasesToAll (i : Identity) (m : List ℕ) : Type 0 where
  pub packet : List ℕ
  pub encoded : Encoded 256 (encode_set 0xF0 0x01 1) packet
  pub erases : (lent : ℕ → List ℕ) → ((k : ℕ) → 64 ≤ length (lent k)) → (es : Events)
      → Erases i m packet lent es ended (lent (length packet + 127))

-- ---- bytes

-- with each store that is seen, a board's identity and store are bytes
unfoldable pub AllInBytes : Identity → Trace → Type 0
AllInBytes i [] = Unit {0}
AllInBytes i (answered a lent m ∷ os) = InBytes i m × AllInBytes i os
AllInBytes i (started m ∷ os) = InBytes i m × AllInBytes i os
AllInBytes i (unstarted n ∷ os) = AllInBytes i os

-- ---- replies

-- What a reply may hold: results, statuses and operation types 0 or 1, modes 1, 2 or 4 in a power status, and else any number of two or four digits
-- and at most 16 bytes, of a program 16.
abbrev pub MayHoldDate : Date → Type 0
MayHoldDate d =
    (d.year < 256) × (d.month < 256) × (d.day < 256) × (d.weekday < 256) × (d.hour < 256) × (d.minute < 256) × (d.daylight < 256)

abbrev pub MayHoldProgram : ScheduleReply → Type 0
MayHoldProgram (schedule_read_reply numbers) = (length numbers ≡ 16) × Bytes numbers
MayHoldProgram (schedule_write_reply status numbers) = (status ≤ 1) × ((length numbers ≡ 16) × Bytes numbers)
MayHoldProgram (schedule_enable_reply status k enable) = (status ≤ 1) × (k < 256) × (enable < 256)

abbrev pub MayHold : Reply → Type 0
MayHold null = Unit {0}
MayHold (get_reply result page code operation largest value) =
    (result ≤ 1) × (page < 256) × (code < 256) × (operation ≤ 1) × (largest < 65536) × (value < 65536)
MayHold (set_reply result page code operation largest value) =
    (result ≤ 1) × (page < 256) × (code < 256) × (operation ≤ 1) × (largest < 65536) × (value < 65536)
MayHold (power_read_reply status mode) = (status ≤ 1) × ((mode ≡ 1) ⊎ ((mode ≡ 2) ⊎ (mode ≡ 4)))
MayHold (power_control_reply status mode) = (status ≤ 1) × (mode < 65536)
MayHold (date_read_reply d) = MayHoldDate d
MayHold (date_write_reply status d) = (status ≤ 1) × MayHoldDate d
MayHold (item_reply i bytes) = (length bytes ≤ 16) × Bytes bytes
MayHold (tag_write_reply status tag) = (status ≤ 1) × ((length tag ≤ 16) × Bytes tag)
MayHold (schedule_reply r) = MayHoldProgram r

-- ---- demand 2

pub record Demand2C : Type 0 where
  -- what C passes with room for a packet is a request, and is sent, or is refused with 20 or 21
  pub passed : (room dest : ℕ) (c : Call) → IsPassed c → 64 ≤ room
      → (IsRequest (request_for c) × IsSent (encoding_for room dest c))
      ⊎ ((encoding_for room dest c ≡ refused 20) ⊎ (encoding_for room dest c ≡ refused 21))
  -- a packet has one destination and one call: its arguments are in it
  pub arguments : (room room' dest dest' : ℕ) (c c' : Call) (packet : List ℕ) → IsPassed c → IsPassed c'
      → encoding_for room dest c ≡ sends packet → encoding_for room' dest' c' ≡ sends packet → (dest ≡ dest') × (c ≡ c')
  -- a kind, numbers and bytes are those of one reply
  pub listed_back : (x y : Reply) → reply_kind x ≡ reply_kind y → numbers_of x ≡ numbers_of y → reply_bytes x ≡ reply_bytes y → x ≡ y
  -- every reply that may be, from every monitor, is told with its values, its digits in either case, and no other
  pub replies_told : (id : ℕ) (r : Reply) → 1 ≤ id → id ≤ 8 → MayHold r
      → IsTold (reply_packet (0x40 + id) (reply_type r) (reply_text r)) (told (reply_kind r) (id ∷ numbers_of r) (reply_bytes r))
  pub spelt_told : (id : ℕ) (r : Reply) (packet : List ℕ) → 1 ≤ id → id ≤ 8 → MayHold r → SpeltReply (0x40 + id) r packet
      → IsTold packet (told (reply_kind r) (id ∷ numbers_of r) (reply_bytes r))
  pub told_replies : (numbers bytes : ℕ) (packet : List ℕ) (id : ℕ) (r : Reply) → read_into numbers bytes packet ≡ station.reply id r → MayHold r
  -- every call but the erase's, to every board at rest
  pub exchanged : (i : Identity) (m : List ℕ) → Ready i m → (c : Call) → IsPassed c → is_taken c ≡ true → is_erase_call c ≡ false → Exchanged i m c
  -- the erase's
  pub erased : (i : Identity) (m : List ℕ) → Ready i m → ErasesById i m
  pub erased_by_all : (i : Identity) (m : List ℕ) → Ready i m → ErasesToAll i m
  -- every unused board is at rest, its identity being in range and bytes
  pub unused_ready : (i : Identity) → 1 ≤ i.id → i.id ≤ 8 → IsItem i.serial → IsItem i.model → Ready i unused_bytes
  -- a board whose identity and store are bytes keeps them so, whatever list of calls, steps and cuts it gets
  pub bytes_kept : (s : BoardState) (m : List ℕ) (es : Events) → InBytes s.ident m → AllInBytes s.ident (run board_kind s.ident s m es)
