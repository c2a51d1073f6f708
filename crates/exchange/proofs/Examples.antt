-- The worked examples, by computation: the encoder past its room check, and the reply of a packet past the bytes that are waited on.
use mathlib.Core.Path.{◌≡◌, refl, ap, sym, ◌∙◌}
use mathlib.Core.Bool.{true}
use mathlib.Core.List.{List, [], ◌∷◌, ◌++◌, append-nil}
use mathlib.Core.Logic.{inl, inr}
use Prim.Native.Nat.{ℕ, ◌+◌, ◌-◌, ◌≤◌}
use native.Mathlib.Omega.{arith}
use borrow.Author.Tests.{le-ltb}
use lib.ListN.{length, take, set, replicate}
use Rattle.bitfield.specs.Field.{get_field, put_field, set_bit, with_bit, bit, bit_of}
use Rattle.wire.specs.Digits.{two, value_of, two_at, four_at, octets_in, unhex, hex_of, padded, SameDigits}
use Rattle.wire.specs.Packet.{zero_byte, over, xor_from, packet_with, packet, packet_text, size, type_a, type_c, type_e, length_digits}
use Rattle.wire.specs.Judge.{is_request_type}
use Rattle.wire.proofs.CaseLaws.{same-itself}
use Rattle.wire.proofs.PacketLaws.{packet-length, written-counted}
use Rattle.messages.specs.Message.{Request, Reply}
use Rattle.messages.specs.Message.Request.{get_parameter, set_parameter, power_control, tag_write}
use Rattle.messages.specs.Message.ScheduleReply.{schedule_read_reply, schedule_write_reply, schedule_enable_reply}
use Rattle.messages.specs.Message.Reply.{null, get_reply, set_reply, power_read_reply, power_control_reply, date_read_reply, date_write_reply, item_reply, tag_write_reply, schedule_reply}
use Rattle.messages.specs.Text.{request_type, request_text, reply_type, reply_text, parameter_text, date_text, schedule_reply_text}
use Rattle.messages.specs.Spelling.{name_length, SpeltRequest}
use Rattle.messages.specs.declared.message.Date.{Date}
use Rattle.messages.specs.declared.message.Item.{Item}
use Rattle.messages.specs.Read.{begins_with, is_name, date_in, numbers_in, get_in, set_in, power_control_in, schedule_read_in, schedule_enable_in, command_in, request_in}
use Rattle.receiver.specs.Receive.{is_proper_beginning}
use Rattle.plan.specs.Stores.{Entry, entry, applied}
use Rattle.calls.specs.Calls.{clears_at, mark, same, first_bytes, is_short, is_sound_as, is_sound, at_rest, step_on, on_step, entry_check, entry_check_of, end_step, erase_step}
use Rattle.calls.specs.Lists.{answered, seen, run}
use Rattle.calls.specs.Lists as lists
use Rattle.calls.specs.Board.{Answer, silent, begun, reply}
use Rattle.store.specs.Fields.{field_stores}
use Rattle.store.specs.Layout.{fields_in_range}
use Rattle.layouts.specs.Layouts.{in_range, unused_store}
use Rattle.store.specs.Settings.{setting_at, current}
use Rattle.schedule.specs.Programs.{first_in_range, program_stores}
use Rattle.schedule.specs.Numbers as program
use Rattle.schedule.specs.Numbers.{are_zero, kept_fields}
use Rattle.calendar.specs.Calendar.{days_in, is_day, before_year, before_month, weekday_of, is_accepted}
use Rattle.store.specs.Contents.{is_on, date_of, date_stores, with_date, tag_of, former_tag_of, tag_stores, with_lengths}
use Rattle.actions.specs.Act.{replies, begins, power_control_effect, date_write_effect, get_effect, set_effect, power_read_effect, schedule_write_effect, schedule_enable_effect, schedule_effect, effect_of, effect}
use Rattle.packets.specs.Packets.{is_identity, reply_with, reply_from, to_own, to_all, on_packet, BoardOutcome}
use Rattle.board.specs.BoardKind.{erase_reply, board_kind}
use Rattle.board.specs.Demand3.{unused_bytes}
use Rattle.board.specs.ByteCalls.{byte_calls, waits, seen_then}
use Rattle.board.proofs.PacketFed.{packet-fed}
use Rattle.station.specs.Encode.{sends, is_in_range, address_in, encoding_to, encoding_of}
use Rattle.station.specs.declared.encode.Destination.{Destination}
use Rattle.exchange.proofs.Requests.{own_done, all_done}
use Rattle.exchange.specs.Examples as examples
use Rattle.exchange.specs.Examples.{one, resting, at_last_place, Seen, Holds, AllHold, p1, p1_reply, p2, p2_to8, p3, set80, p4, p5, p6, p7, unknown, p8, status, p9, p10, p10_reply}
use Rattle.exchange.specs.Examples.{write_leap_day, leap_day_written, write_monday, monday_refused, write_missing, missing_refused, earlier_shown, dated_leap_day, dated_earlier}
use Rattle.exchange.specs.Examples.{standby_shown, ask_date, date_shown, write_date, date_written, ask_serial, serial_shown, ask_model, model_shown}
use Rattle.exchange.specs.Examples.{ask_tag, tag_shown, ask_former, former_shown, write_tag, tag_written, set_input, input_set, get_input, input_shown}
use Rattle.exchange.specs.Examples.{set_tile, tile_refused, get_unlisted, unlisted_shown, tagged, retagged, dated}
use Rattle.exchange.specs.Examples.{ask_program, program_shown, write_program, program_written, disable_program, program_disabled, enable_program, program_enabled}
use Rattle.exchange.specs.Examples.{write_late, late_refused, ask_seven, enable_seven, seven_refused, programmed}
use Rattle.exchange.specs.Examples.{p1_small, set75, shown75, erase_small, ask_tag_small, write_tag_small, tag_small_written, tagged_small}

-- ---- what the encoder writes

written : (dest : Destination) (r : Request) (bytes : List ℕ) → encoding_to (address_in dest) (is_in_range r) (request_type r) (request_text r) ≡ sends bytes
    → Holds (examples.writes dest r bytes)
unfolding encoding_of
written dest r bytes e room h = rw (le-ltb room 64 h) e

-- ---- what a board replies

-- what is seen of a packet, by what it leaves
seen_of_lem : (m : List ℕ) (dest kind : ℕ) (digits text p left : List ℕ) (a : Answer ℕ) (buffer : List ℕ → List ℕ) (o : List ℕ → BoardOutcome)
    → SameDigits (length_digits text) digits
    → is_sound board_kind resting m ≡ true → is_request_type kind ≡ true → 2 ≤ length text → length text ≤ 62 → packet_with dest zero_byte kind digits text ≡ p
    → ((lent : List ℕ) → on_packet one m (packet_with dest zero_byte kind digits text) lent ≡ o lent)
    → ((lent : List ℕ) → seen board_kind (o lent) m ≡ answered a (buffer lent) left)
    → Seen m p a buffer left
unfolding run
seen_of_lem m dest kind digits text p left a buffer o counted sound request least most given does shows lent room =
    let n = length text + 10 in
    let l : length (packet_with dest zero_byte kind digits text) - 1 ≡ n = rw (packet-length dest zero_byte kind digits text counted) (omega arith) in
    rw (← given, l)
    (ap (run board_kind one resting m) (sym (append-nil (byte_calls lent 0 (packet_with dest zero_byte kind digits text))))
    ∙ packet-fed resting m lent dest kind digits text [] sound refl refl room counted request least most
    ∙ ap (λ (o : BoardOutcome). waits lent m 0 n ++ seen_then one m o []) (does (lent n))
    ∙ ap (λ (x : lists.Seen ℕ). waits lent m 0 n ++ (x ∷ [])) (shows (lent n)))

spelt_replied : (m : List ℕ) (kind : ℕ) (digits text : List ℕ) → SameDigits (length_digits text) digits → (r : Reply) (es : List Entry)
    → effect one m (request_in kind text) ≡ replies r es → (p left : List ℕ)
    → is_sound board_kind resting m ≡ true → is_request_type kind ≡ true → 2 ≤ length text → length text ≤ 62
    → (bytes : List ℕ) → packet_with 0x41 zero_byte kind digits text ≡ p → reply_from one r ≡ bytes → applied es m ≡ left
    → Holds (examples.replies m p bytes left)
unfolding seen to_own
spelt_replied m kind digits text counted r es is p left sound request least most bytes given sent stored =
    seen_of_lem m 0x41 kind digits text p left (reply (length bytes)) (over bytes) (to_own one (replies r es)) counted sound request least most given
    (λ lent. own_done one m lent kind digits text counted most ∙ rw is) (λ lent. rw (← sent, ← stored))

-- with length digits as they are written: a reply, and the same in silence
module _ (m : List ℕ) (kind : ℕ) (text : List ℕ) where
  abbrev digits : List ℕ
  digits = length_digits text

  module _ (r : Reply) (es : List Entry) (is : effect one m (request_in kind text) ≡ replies r es)
      (p left : List ℕ) (sound : is_sound board_kind resting m ≡ true) (request : is_request_type kind ≡ true) (least : 2 ≤ length text) (most : length text ≤ 62) where
    replied : (bytes : List ℕ) → packet_with 0x41 zero_byte kind digits text ≡ p → reply_from one r ≡ bytes → applied es m ≡ left
        → Holds (examples.replies m p bytes left)
    replied = spelt_replied m kind digits text (written-counted text) r es is p left sound request least most

    acted : packet_with 0x2A zero_byte kind digits text ≡ p → applied es m ≡ left → Holds (examples.acts m p left)
    unfolding seen to_all
    acted given stored =
        seen_of_lem m 0x2A kind digits text p left silent (λ lent. lent) (to_all one (replies r es)) (written-counted text) sound request least most given
        (λ lent. all_done one m lent kind digits text (written-counted text) most ∙ rw is) (λ lent. rw (← stored))

  begun_by : (p left : List ℕ) → effect one m (request_in kind text) ≡ begins → is_sound board_kind resting m ≡ true
      → is_request_type kind ≡ true → 2 ≤ length text → length text ≤ 62 → packet_with 0x41 zero_byte kind digits text ≡ p → set m 0 0xE7 ≡ left
      → Holds (examples.begins m p left)
  unfolding seen to_own
  begun_by p left is sound request least most given stored =
      seen_of_lem m 0x41 kind digits text p left begun (λ lent. lent) (to_own one begins) (written-counted text) sound request least most given
      (λ lent. own_done one m lent kind digits text (written-counted text) most ∙ rw is) (λ lent. rw (← stored))

-- ---- the last step of an erase

last_step : (lent : List ℕ) → 64 ≤ length lent → on_step board_kind at_last_place (set unused_bytes 0 0xE7) lent ≡ end_step board_kind true at_last_place lent
unfolding on_step step_on entry_check_of entry_check erase_step is_short is_sound is_sound_as is_identity mark same first_bytes unused_store clears_at
last_step lent h = rw (le-ltb (length lent) 64 h)

erased : Holds (examples.erases p7)
unfolding run seen end_step at_rest mark unused_store erase_reply reply_with reply_type reply_text parameter_text packet packet_with xor_from
erased lent h = rw (last_step lent h)

-- ---- all of them

infixr 10 ◌and◌
◌and◌ : {A B : Type 0} → A → B → A × B
a and b = (a, b)

pub examples-hold : AllHold examples.examples
unfolding AllHold request_type request_text packet packet_with xor_from packet_text size two_at four_at value_of
    is_sound is_sound_as is_identity mark in_range fields_in_range first_in_range unused_store is_proper_beginning get_field bit bit_of
    request_in get_in set_in command_in begins_with is_name effect_of get_effect set_effect power_read_effect power_control_effect power_control_in setting_at current is_on field_stores put_field set_bit with_bit
    reply_with reply_type reply_text parameter_text
examples-hold =
    let fifty = set unused_bytes 1 0x64 in
    let eighty = set unused_bytes 1 0xA0 in
    let hundred = set unused_bytes 1 0xC8 in
    let standby = set unused_bytes 6 0x08 in
    written (Destination.Id 1) (set_parameter 0x00 0x10 100) p1 refl
    and replied unused_bytes type_e (packet_text p1) (set_reply 0 0x00 0x10 0 100 100) (entry 1 0xC8 ∷ []) refl p1 hundred refl refl (omega arith) (omega arith) p1_reply refl refl refl
    and written (Destination.Id 1) (get_parameter 0x00 0x10) p2 refl
    and written (Destination.Id 8) (get_parameter 0x00 0x10) p2_to8 refl
    and replied fifty type_c (packet_text p2) (get_reply 0 0x00 0x10 0 100 50) [] refl p2 fifty refl refl (omega arith) (omega arith) p3 refl refl refl
    and replied unused_bytes type_e (packet_text set80) (set_reply 0 0x00 0x10 0 100 80) (entry 1 0xA0 ∷ []) refl set80 eighty refl refl (omega arith) (omega arith) p4 refl refl refl
    and written Destination.All (set_parameter 0x00 0x10 100) p5 refl
    and acted unused_bytes type_e (packet_text p5) (set_reply 0 0x00 0x10 0 100 100) (entry 1 0xC8 ∷ []) refl p5 hundred refl refl (omega arith) (omega arith) refl refl
    and written (Destination.Id 1) (set_parameter 0xF0 0x01 1) p6 refl
    and begun_by unused_bytes type_e (packet_text p6) p6 (set unused_bytes 0 0xE7) refl refl refl (omega arith) (omega arith) refl refl
    and erased
    and replied unused_bytes type_a (packet_text unknown) null [] refl unknown unused_bytes refl refl (omega arith) (omega arith) p8 refl refl refl
    and replied unused_bytes type_a (packet_text status) (power_read_reply 0 1) [] refl status unused_bytes refl refl (omega arith) (omega arith) p9 refl refl refl
    and written (Destination.Id 1) (power_control 4) p10 refl
    and replied unused_bytes type_a (packet_text p10) (power_control_reply 0 4) (entry 6 0x08 ∷ []) refl p10 standby refl refl (omega arith) (omega arith) p10_reply refl refl refl
    and refl
    and tt

-- Saturday, 1 January 2000, 00:00
abbrev first_day : Date
first_day = record { year = 0; month = 1; day = 1; weekday = 6; hour = 0; minute = 0; daylight = 0 }

-- Thursday, 31 December 2099, 23:59
abbrev last_day : Date
last_day = record { year = 99; month = 12; day = 31; weekday = 4; hour = 23; minute = 59; daylight = 0 }

-- a date in February
abbrev february : (year day weekday hour minute : ℕ) → Date
february year day weekday hour minute =
    record { year = year; month = 2; day = day; weekday = weekday; hour = hour; minute = minute; daylight = 0 }

-- program 0 of an unused board; program 2 from 07:00 to 23:30, and from hour 25
abbrev not_set : List ℕ
not_set = 0 ∷ 24 ∷ 60 ∷ 24 ∷ 60 ∷ 0 ∷ 0 ∷ 0 ∷ replicate 8 0

abbrev weekdays : List ℕ
weekdays = 2 ∷ 7 ∷ 0 ∷ 23 ∷ 30 ∷ 17 ∷ 0x1F ∷ 0x06 ∷ replicate 8 0

abbrev late : List ℕ
late = 2 ∷ 25 ∷ 0 ∷ 23 ∷ 30 ∷ 17 ∷ 0x1F ∷ 0x06 ∷ replicate 8 0

spelt : (r : Request) (p digits text : List ℕ) → SameDigits (length_digits text) digits → SameDigits (request_text r) text
    → take (name_length r) text ≡ take (name_length r) (request_text r) → p ≡ packet_with 0x41 zero_byte (request_type r) digits text → SpeltRequest 0x41 r p
spelt r p digits text counted said name whole =
    record { digits = digits; text = text; counted = counted; said = record { digits = said; name = name }; whole = whole }

-- 0010004B as 0010004b, and F0010001 as f0010001
small_75 : SameDigits (request_text (set_parameter 0x00 0x10 75)) (packet_text set75)
unfolding SameDigits request_text packet_text size two_at value_of
small_75 = (inl refl, (inl refl, (inl refl, (inl refl, (inl refl, (inl refl, (inl refl, (inr (omega arith, omega arith, refl), tt))))))))

small_erase : SameDigits (request_text (set_parameter 0xF0 0x01 1)) (packet_text erase_small)
unfolding SameDigits request_text packet_text size two_at value_of
small_erase = (inr (omega arith, omega arith, refl), (inl refl, (inl refl, (inl refl, (inl refl, (inl refl, (inl refl, (inl refl, tt))))))))

-- F0116D4A as F0116d4A
small_tag : SameDigits (request_text (tag_write (0x6D ∷ 0x4A ∷ []))) (packet_text write_tag_small)
unfolding SameDigits request_text hex_of packet_text size two_at value_of
small_tag = (inl refl, (inl refl, (inl refl, (inl refl, (inl refl, (inr (omega arith, omega arith, refl), (inl refl, (inl refl, tt))))))))

-- 10 as 0a
small_ten : SameDigits (two 10) (0x30 ∷ 0x61 ∷ [])
unfolding SameDigits
small_ten = (inl refl, (inr (omega arith, omega arith, refl), tt))

pub row_examples-hold : AllHold examples.row_examples
unfolding AllHold request_type request_text packet packet_with xor_from packet_text size two_at four_at value_of
    is_sound is_sound_as is_identity mark in_range fields_in_range first_in_range unused_store is_proper_beginning get_field bit bit_of
    request_in get_in set_in command_in begins_with is_name effect_of get_effect set_effect power_read_effect power_control_effect power_control_in setting_at current is_on field_stores put_field set_bit with_bit
    reply_with reply_type reply_text parameter_text
    date_of date_write_effect is_accepted is_day days_in weekday_of before_year before_month date_stores with_date tag_of former_tag_of tag_stores padded with_lengths date_in octets_in unhex hex_of date_text
    schedule_read_in schedule_enable_in numbers_in schedule_effect schedule_write_effect schedule_enable_effect program.is_accepted are_zero program_stores schedule_reply_text
row_examples-hold =
    let standby = set unused_bytes 6 0x08 in
    let hdmi = set unused_bytes 1 0x8D in
    let disabled = set programmed 57 0x3E in
    replied standby type_a (packet_text status) (power_read_reply 0 4) [] refl status standby refl refl (omega arith) (omega arith) standby_shown refl refl refl
    and replied unused_bytes type_a (packet_text ask_date) (date_read_reply first_day) [] refl ask_date unused_bytes refl refl (omega arith) (omega arith) date_shown refl refl refl
    and replied unused_bytes type_a (packet_text write_date) (date_write_reply 0 last_day) (date_stores unused_bytes last_day) refl write_date dated refl refl (omega arith) (omega arith) date_written refl refl refl
    and replied unused_bytes type_a (packet_text write_leap_day) (date_write_reply 0 (february 0 29 2 0 0)) (date_stores unused_bytes (february 0 29 2 0 0)) refl write_leap_day dated_leap_day refl refl (omega arith) (omega arith) leap_day_written refl refl refl
    and replied dated_leap_day type_a (packet_text write_monday) (date_write_reply 1 (february 0 29 1 0 0)) [] refl write_monday dated_leap_day refl refl (omega arith) (omega arith) monday_refused refl refl refl
    and replied dated_leap_day type_a (packet_text write_missing) (date_write_reply 1 (february 1 29 4 0 0)) [] refl write_missing dated_leap_day refl refl (omega arith) (omega arith) missing_refused refl refl refl
    and replied dated_earlier type_a (packet_text ask_date) (date_read_reply (february 0 31 4 12 30)) [] refl ask_date dated_earlier refl refl (omega arith) (omega arith) earlier_shown refl refl refl
    and replied unused_bytes type_a (packet_text ask_serial) (item_reply Item.Serial (0x53 ∷ [])) [] refl ask_serial unused_bytes refl refl (omega arith) (omega arith) serial_shown refl refl refl
    and replied unused_bytes type_a (packet_text ask_model) (item_reply Item.Model (0x4D ∷ 0x32 ∷ [])) [] refl ask_model unused_bytes refl refl (omega arith) (omega arith) model_shown refl refl refl
    and replied tagged type_a (packet_text ask_tag) (item_reply Item.Tag (0x41 ∷ 0x42 ∷ [])) [] refl ask_tag tagged refl refl (omega arith) (omega arith) tag_shown refl refl refl
    and replied tagged type_a (packet_text ask_former) (item_reply Item.FormerTag (0x43 ∷ [])) [] refl ask_former tagged refl refl (omega arith) (omega arith) former_shown refl refl refl
    and replied tagged type_a (packet_text write_tag) (tag_write_reply 0 (0x44 ∷ [])) (tag_stores tagged (0x44 ∷ [])) refl write_tag retagged refl refl (omega arith) (omega arith) tag_written refl refl refl
    and replied unused_bytes type_e (packet_text set_input) (set_reply 0 0x00 0x60 0 17 4) (entry 1 0x8D ∷ entry 2 0x3C ∷ []) refl set_input hdmi refl refl (omega arith) (omega arith) input_set refl refl refl
    and replied hdmi type_c (packet_text get_input) (get_reply 0 0x00 0x60 0 17 17) [] refl get_input hdmi refl refl (omega arith) (omega arith) input_shown refl refl refl
    and replied unused_bytes type_e (packet_text set_tile) (set_reply 1 0x10 0x4A 0 2 3) [] refl set_tile unused_bytes refl refl (omega arith) (omega arith) tile_refused refl refl refl
    and replied unused_bytes type_c (packet_text get_unlisted) (get_reply 1 0x00 0x11 0 0 0) [] refl get_unlisted unused_bytes refl refl (omega arith) (omega arith) unlisted_shown refl refl refl
    and replied unused_bytes type_a (packet_text ask_program) (schedule_reply (schedule_read_reply not_set)) [] refl ask_program unused_bytes refl refl (omega arith) (omega arith) program_shown refl refl refl
    and replied unused_bytes type_a (packet_text write_program) (schedule_reply (schedule_write_reply 0 weekdays)) (program_stores unused_bytes 2 (kept_fields weekdays)) refl write_program programmed refl refl (omega arith) (omega arith) program_written refl refl refl
    and replied programmed type_a (packet_text disable_program) (schedule_reply (schedule_enable_reply 0 2 0)) (entry 57 0x3E ∷ []) refl disable_program disabled refl refl (omega arith) (omega arith) program_disabled refl refl refl
    and replied disabled type_a (packet_text enable_program) (schedule_reply (schedule_enable_reply 0 2 1)) (entry 57 0x3F ∷ []) refl enable_program programmed refl refl (omega arith) (omega arith) program_enabled refl refl refl
    and replied programmed type_a (packet_text write_late) (schedule_reply (schedule_write_reply 1 late)) [] refl write_late programmed refl refl (omega arith) (omega arith) late_refused refl refl refl
    and replied programmed type_a (packet_text ask_seven) null [] refl ask_seven programmed refl refl (omega arith) (omega arith) p8 refl refl refl
    and replied programmed type_a (packet_text enable_seven) (schedule_reply (schedule_enable_reply 1 7 1)) [] refl enable_seven programmed refl refl (omega arith) (omega arith) seven_refused refl refl refl
    and spelt (set_parameter 0x00 0x10 100) p1_small (0x30 ∷ 0x61 ∷ []) (packet_text p1_small) small_ten (same-itself (packet_text p1_small)) refl refl
    and spelt_replied unused_bytes type_e (0x30 ∷ 0x61 ∷ []) (packet_text p1_small) small_ten (set_reply 0 0x00 0x10 0 100 100) (entry 1 0xC8 ∷ []) refl p1_small (set unused_bytes 1 0xC8) refl refl (omega arith) (omega arith) p1_reply refl refl refl
    and spelt (set_parameter 0x00 0x10 75) set75 (0x30 ∷ 0x41 ∷ []) (packet_text set75) (same-itself (0x30 ∷ 0x41 ∷ [])) small_75 refl refl
    and replied unused_bytes type_e (packet_text set75) (set_reply 0 0x00 0x10 0 100 75) (entry 1 0x96 ∷ []) refl set75 (set unused_bytes 1 0x96) refl refl (omega arith) (omega arith) shown75 refl refl refl
    and spelt (set_parameter 0xF0 0x01 1) erase_small (0x30 ∷ 0x41 ∷ []) (packet_text erase_small) (same-itself (0x30 ∷ 0x41 ∷ [])) small_erase refl refl
    and begun_by unused_bytes type_e (packet_text erase_small) erase_small (set unused_bytes 0 0xE7) refl refl refl (omega arith) (omega arith) refl refl
    and replied unused_bytes type_a (packet_text ask_tag_small) null [] refl ask_tag_small unused_bytes refl refl (omega arith) (omega arith) p8 refl refl refl
    and spelt (tag_write (0x6D ∷ 0x4A ∷ [])) write_tag_small (0x30 ∷ 0x41 ∷ []) (packet_text write_tag_small) (same-itself (0x30 ∷ 0x41 ∷ [])) small_tag refl refl
    and replied unused_bytes type_a (packet_text write_tag_small) (tag_write_reply 0 (0x6D ∷ 0x4A ∷ [])) (tag_stores unused_bytes (0x6D ∷ 0x4A ∷ [])) refl write_tag_small tagged_small refl refl (omega arith) (omega arith) tag_small_written refl refl refl
    and tt
