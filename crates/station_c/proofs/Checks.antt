-- The encoder and the reader for C refuse a call with the first of its checks that fails: the definitions test in the same order.
use mathlib.Core.Bool.{Bool, true, false, cond, not, ◌&&◌, ◌||◌, and-true}
use mathlib.Core.List.{List, [], ◌∷◌}
use mathlib.Core.Option.{Option, none, some}
use mathlib.Core.Path.{◌≡◌, refl, sym, ◌∙◌}
use Prim.Native.Nat.{ℕ, ◌+◌, ◌≤◌}
use native.Mathlib.Omega.{arith}
use borrow.Author.Tests.{le-leb, lt-leb, ne_eqb, ltb-true, ltb-false, leb-true, leb-false, eqb-true, not-false}
use lib.Dec.{ltb, leb, eqb}
use lib.ListN.{length, get_or}
use Rattle.wire.specs.Digits.{two_at}
use Rattle.wire.specs.Packet.{address_of, all_address, size, size_from, check_code, packet_text}
use Rattle.wire.specs.Judge.{Verdict, in_limits, is_length, ends_in_return, has_check_code, is_message}
use Rattle.wire.specs.Judge as judge
use Rattle.wire.specs.Checks.{Check, first_failed}
use Rattle.wire.proofs.Tests.{cond-by, both}
use Rattle.messages.specs.Message.{Reply}
use Rattle.messages.specs.Read.{reply_in}
use Rattle.replies.specs.View.{or_refused}
use Rattle.calendar.specs.Calendar as date
use Rattle.calendar.specs.Calendar.{days_in, is_day, weekday_of}
use Rattle.calendar.proofs.DayLaws.{day-as, weekday-most}
use Rattle.schedule.proofs.TimeLaws.{time_as}
use Rattle.schedule.specs.Numbers as program
use Rattle.schedule.specs.Numbers.{are_zero}
use Rattle.station.specs.Encode as encode
use Rattle.station.specs.Encode.{Encoding, address_in, is_in_range, encoding_to, encoding_of}
use Rattle.station.specs.Read as read
use Rattle.station.specs.Read.{PacketReading, sent_by, is_reply_header, is_whole_length, reply_in_message, reply_verdict, unless_refused, read_packet, reply_size}
use Rattle.station.proofs.ReadLaws.{read-framed}
use Rattle.station.proofs.ReadWritten.{read-written}
use Rattle.station.specs.declared.encode.Destination.{Destination}
use Rattle.station_c.specs.Encode.{Call, encode_get, encode_set, encode_power_read, encode_power_control, encode_date_read, encode_date_write}
use Rattle.station_c.specs.Encode.{encode_serial_read, encode_model_read, encode_tag_read, encode_former_tag_read, encode_tag_write}
use Rattle.station_c.specs.Encode.{encode_schedule_read, encode_schedule_write, encode_schedule_enable}
use Rattle.station_c.specs.Encode.{request_for, destination_of, encoding_for, weekday_for}
use Rattle.station_c.specs.Read.{read_into}
use Rattle.station_c.specs.Checks.{encoding_refusal, is_taken, encoder_checks, reading_refusal, is_its_length, is_some, reader_checks, size_by, Refusals}

-- ---- the encoder

pub taken_as : (c : Call) → is_in_range (request_for c) ≡ is_taken c
unfolding date.is_accepted program.is_accepted are_zero
taken_as (encode_get page code) = refl
taken_as (encode_set page code value) = refl
taken_as encode_power_read = refl
taken_as (encode_power_control mode) = refl
taken_as encode_date_read = refl
taken_as (encode_date_write yy mm dd ww hh mn ds) =
    rw (day-as yy mm dd)
taken_as encode_serial_read = refl
taken_as encode_model_read = refl
taken_as encode_tag_read = refl
taken_as encode_former_tag_read = refl
taken_as (encode_tag_write tag) = refl
taken_as (encode_schedule_read program) = refl
taken_as (encode_schedule_write program on_hour on_minute off_hour off_minute input week flags) =
    rw (time_as on_hour on_minute, time_as off_hour off_minute) (and-true _)
taken_as (encode_schedule_enable program enable) = refl

-- a weekday that falls on a day is up to 6, and 7 is not
weekday-as : (there : Bool) (w ww : ℕ) → w ≤ 6 → (there && eqb ww w) ≡ (leb ww 6 && eqb ww (cond there w 7))
weekday-as there w ww h = by there (leb ww 6) refl
  where
    by : (there small : Bool) → leb ww 6 ≡ small → (there && eqb ww w) ≡ (leb ww 6 && eqb ww (cond there w 7))
    by true true e = rw e
    by true false e = rw (e, ne_eqb ww w (λ q. omega (arith, leb-false ww 6 e)))
    by false true e = rw (e, ne_eqb ww 7 (λ q. omega (arith, leb-true ww 6 e)))
    by false false e = rw e

weekday : (yy mm dd ww hh mn : ℕ)
    → is_taken (encode_date_write yy mm dd ww hh mn 0) ≡ (leb ww 6 && eqb ww (weekday_for yy mm dd) && leb hh 23 && leb mn 59)
weekday yy mm dd ww hh mn =
    rw (day-as yy mm dd, weekday-as (is_day yy mm dd) (weekday_of yy mm dd) ww (weekday-most yy mm dd)) (and-true _)

no_day : (yy mm dd : ℕ) → (leb yy 99 && (leb 1 mm && leb mm 12) && (leb 1 dd && leb dd (days_in yy mm))) ≡ false → weekday_for yy mm dd ≡ 7
no_day yy mm dd e = rw (sym (day-as yy mm dd) ∙ e)

-- ALL by its test, an ID by its own
address_as_lem : (all : Bool) (n : ℕ)
    → address_in (cond all Destination.All (Destination.Id n)) ≡ cond all (some all_address) (cond (leb 1 n && leb n 8) (some (address_of n)) none)
address_as_lem true n = refl
address_as_lem false n = refl

room-first : (short : Bool) (e : Encoding) (cs : List Check) → encoding_refusal e ≡ first_failed cs
    → encoding_refusal (cond short (encode.refused 10) e) ≡ first_failed ((short, 10) ∷ cs)
unfolding first_failed
room-first true e cs q = refl
room-first false e cs q = q

value-first : (good : Bool) (x kind : ℕ) (text : List ℕ) → encoding_refusal (encoding_to (some x) good kind text) ≡ first_failed ((not good, 21) ∷ [])
unfolding first_failed
value-first true x kind text = refl
value-first false x kind text = refl

destination-first : (id all good : Bool) (x y kind : ℕ) (text : List ℕ)
    → encoding_refusal (encoding_to (cond all (some x) (cond id (some y) none)) good kind text)
    ≡ first_failed ((not (id || all), 20) ∷ (not good, 21) ∷ [])
unfolding first_failed
destination-first true true good x y kind text = value-first good x kind text
destination-first true false good x y kind text = value-first good y kind text
destination-first false true good x y kind text = value-first good x kind text
destination-first false false good x y kind text = refl

encoder : (room dest : ℕ) (c : Call) → encoding_refusal (encoding_for room dest c) ≡ first_failed (encoder_checks room dest c)
unfolding encoding_of destination_of encoder_checks
encoder room dest c =
    rw (address_as_lem (eqb dest 256) dest, taken_as c)
    (room-first _ _ _ (destination-first (leb 1 dest && leb dest 8) (eqb dest 256) (is_taken c) _ _ _ _))

-- ---- the reader

lent-first : (short : Bool) (r : PacketReading) (cs : List Check) → reading_refusal r ≡ first_failed cs
    → reading_refusal (cond short (read.refused 10) r) ≡ first_failed ((short, 10) ∷ cs)
unfolding first_failed
lent-first true r cs q = refl
lent-first false r cs q = q

-- a check of the verdict, and those behind it where it passes
verdict-first : (fails : Bool) (n : ℕ) (v : Verdict) (r : PacketReading) (cs : List Check)
    → (fails ≡ false → reading_refusal (unless_refused v r) ≡ first_failed cs)
    → reading_refusal (unless_refused (cond fails (judge.refused n) v) r) ≡ first_failed ((fails, n) ∷ cs)
unfolding first_failed
verdict-first true n v r cs q = refl
verdict-first false n v r cs q = q refl

reply-first : (id : ℕ) (message : Bool) (r : Option Reply)
    → reading_refusal (sent_by id (or_refused (cond message r none))) ≡ first_failed ((not (message && is_some r), 35) ∷ [])
unfolding first_failed
reply-first id true (some r) = refl
reply-first id true none = refl
reply-first id false r = refl

its_length : (l : Option ℕ) (n : ℕ) → (in_limits l && eqb (size_from l) n) ≡ is_its_length l n
its_length (some l) n = refl
its_length none n = refl

module _ (p : List ℕ) where
  length-as : is_whole_length p ≡ is_its_length (two_at p 5) (length p)
  unfolding is_whole_length is_length size
  length-as = its_length (two_at p 5) (length p)

  -- a packet's size, which the definitions count from, is then its length
  sized : is_whole_length p ≡ true → size p ≡ length p
  unfolding is_whole_length
  sized e = eqb-true (size p) (length p) (both (is_length p) (eqb (size p) (length p)) e).1

  reader : (numbers bytes : ℕ) → reading_refusal (read_into numbers bytes p) ≡ first_failed (reader_checks numbers bytes p)
  unfolding read_into read_packet reply_verdict is_reply_header ends_in_return has_check_code check_code reply_in_message is_message packet_text reader_checks
  reader numbers bytes =
      rw (← length-as)
      (lent-first _ _ _
      (verdict-first _ 30 _ _ _ λ _.
      verdict-first _ 31 _ _ _ λ _.
      verdict-first (not (is_whole_length p)) 32 _ _ _ λ whole.
      rw (← sized (not-false (is_whole_length p) whole))
      (verdict-first _ 33 _ _ _ λ _.
      verdict-first _ 34 _ _ _ λ _.
      reply-first _ (is_message p) (reply_in (get_or p 4 0) (packet_text p)))))

-- ---- the length

size-as : (l : Option ℕ) (n : ℕ) → cond (ltb n 7) 0 (cond (in_limits l) (size_from l) 0) ≡ size_by n l
size-as none n = cond-by (λ (k : ℕ). k ≡ 0) (ltb n 7) 0 0 (λ _. refl) (λ _. refl)
size-as (some l) n =
    cond-by (λ (k : ℕ). k ≡ size_by n (some l)) (ltb n 7) 0 _ (λ e. rw (lt-leb 7 n (ltb-true n 7 e))) (λ e. rw (le-leb 7 n (ltb-false n 7 e)))

reply-size : (first : List ℕ) → reply_size first ≡ size_by (length first) (two_at first 5)
unfolding reply_size is_length size
reply-size first = size-as (two_at first 5) (length first)

size-most : (n : ℕ) (l : Option ℕ) → size_by n l ≤ 73
size-most n none = omega arith
size-most n (some l) = cond-by (λ (k : ℕ). k ≤ 73) (leb 7 n && (leb 4 l && leb l 64)) (l + 9) 0
    (λ e. omega (arith, leb-true l 64 (both (leb 4 l) (leb l 64) (both (leb 7 n) (leb 4 l && leb l 64) e).1).1)) (λ _. omega arith)

most : (first : List ℕ) → reply_size first ≤ 73
most first = rw (reply-size first) (size-most (length first) (two_at first 5))

-- ---- what is read

read_behind : (numbers bytes : ℕ) (p : List ℕ) (id : ℕ) (r : Reply) → read_into numbers bytes p ≡ read.reply id r → read_packet p ≡ read.reply id r
unfolding read_into
read_behind numbers bytes p id r =
    cond-by (λ (x : PacketReading). x ≡ read.reply id r → read_packet p ≡ read.reply id r) (ltb numbers 9 || ltb bytes 16) _ _
    (λ _ e. let z : ◌≡◌ {A = ℕ} 0 1 = cc in absurd (omega arith)) (λ _ e. e)

pub refusals : Refusals
refusals = record { encoder = encoder; weekday = weekday; no_day = no_day; reader = λ numbers bytes p. reader p numbers bytes; size = reply-size; most = most; framed = λ numbers bytes p id r e. read-framed p (read_behind numbers bytes p id r e); written = λ numbers bytes p id r e. read-written p (read_behind numbers bytes p id r e) }
