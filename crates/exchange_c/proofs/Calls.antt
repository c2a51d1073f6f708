-- What C passes and the encoder takes is a request. Its packet is written, and has one destination and one call.
use mathlib.Core.Bool.{true, cond, ◌&&◌}
use mathlib.Core.List.{List}
use mathlib.Core.Logic.{◌⊎◌, inl, inr}
use mathlib.Core.Option.{Option, none, some, some-injective}
use mathlib.Core.Path.{◌≡◌, refl, sym, ap, ◌∙◌}
use Prim.Native.Nat.{ℕ, ◌+◌, ◌-◌, ◌≤◌}
use native.Mathlib.Omega.{arith}
use borrow.Author.Tests.{leb-true, eqb-true, le-leb, lt-ltb, le-ltb, ne_eqb}
use lib.Dec.{leb, eqb}
use lib.ListN.{length, get_or}
use Rattle.wire.specs.Packet.{zero_byte, packet_with, packet, request_packet, packet_text}
use Rattle.wire.proofs.Tests.{cond-by}
use Rattle.wire.proofs.PacketLaws.{written-length, written-text}
use Rattle.messages.specs.Message.{Request, IsRequest}
use Rattle.messages.specs.Message.ScheduleRequest.{schedule_read, schedule_write, schedule_enable}
use Rattle.messages.specs.Message.Request.{get_parameter, set_parameter, power_read, power_control, date_read, date_write, item_read, tag_write, schedule}
use Rattle.messages.specs.Text.{request_type, request_text}
use Rattle.messages.specs.Read.{request_in}
use Rattle.messages.specs.declared.message.Item.{Item}
use Rattle.messages.proofs.RoundTrips.{request-back, request-length}
use Rattle.calls.specs.Board.{Identity}
use Rattle.station.specs.Encode.{Encoding, sends, refused, address_in, encoding_to, encoding_of}
use Rattle.station.specs.declared.encode.Destination.{Destination}
use Rattle.station_c.proofs.Checks.{taken_as}
use Rattle.station_c.specs.Checks.{is_taken}
use Rattle.station_c.specs.Encode.{Call, encode_get, encode_set, encode_power_read, encode_power_control, encode_date_read, encode_date_write}
use Rattle.station_c.specs.Encode.{encode_serial_read, encode_model_read, encode_tag_read, encode_former_tag_read, encode_tag_write}
use Rattle.station_c.specs.Encode.{encode_schedule_read, encode_schedule_write, encode_schedule_enable}
use Rattle.station_c.specs.Encode.{destination_of, request_for, encoding_for}
use Rattle.exchange.specs.Rows.{Ready}
use Rattle.exchange.proofs.Requests.{sent}
use Rattle.exchange.proofs.RowLaws.{named}
use Rattle.exchange_c.specs.Demand2.{IsPassed, IsSent, Encoded, passed_program}
use Rattle.exchange_c.proofs.StoredBytes.{tested_bytes}

pub taken_request : (c : Call) → IsPassed c → is_taken c ≡ true → IsRequest (request_for c)
taken_request (encode_get page code) h t = h
taken_request (encode_set page code value) h t = h
taken_request encode_power_read h t = tt
taken_request (encode_power_control mode) h t = h
taken_request encode_date_read h t = tt
taken_request (encode_date_write yy mm dd ww hh mn ds) h t =
    record { year = h.0; month = h.1; day = h.2; weekday = h.3; hour = h.4; minute = h.5; daylight = h.6 }
taken_request encode_serial_read h t = tt
taken_request encode_model_read h t = tt
taken_request encode_tag_read h t = tt
taken_request encode_former_tag_read h t = tt
taken_request (encode_tag_write tag) h t = record { few = leb-true (length tag) 16 t; bytes = h }
taken_request (encode_schedule_read k) h t = h
taken_request (encode_schedule_write k on-hour on-minute off-hour off-minute input week flags) h t =
    record {
      sixteen = refl;
      bytes = tested_bytes (passed_program k on-hour on-minute off-hour off-minute input week flags)
          (rw (
            lt-ltb k 256 h.0,
            lt-ltb on-hour 256 h.1,
            lt-ltb on-minute 256 h.2,
            lt-ltb off-hour 256 h.3,
            lt-ltb off-minute 256 h.4,
            lt-ltb input 256 h.5,
            lt-ltb week 256 h.6,
            lt-ltb flags 256 h.7,
          ));
    }
taken_request (encode_schedule_enable k enable) h t = h

-- ---- a call that is encoded

abbrev pub packet_to : ℕ → Call → List ℕ
packet_to a c = request_packet a (request_type (request_for c)) (request_text (request_for c))

-- the place of its last byte
pub packet-last : (a : ℕ) (c : Call) → length (packet_to a c) - 1 ≡ length (request_text (request_for c)) + 10
packet-last a c = rw (written-length a zero_byte (request_type (request_for c)) (request_text (request_for c))) (omega arith)

pub encoded : (dest a : ℕ) (c : Call) → address_in (destination_of dest) ≡ some a → is_taken c ≡ true → Encoded dest c (packet_to a c)
unfolding encoding_of
encoded dest a c known t out size room =
    rw (le-ltb (length out) 64 room, known, taken_as c ∙ t) (record { told = record { result = refl; size = refl }; buffer = refl })

-- sent, or refused with 20 or 21
abbrev Passed : Call → Encoding → Type 0
Passed c e = (IsRequest (request_for c) × IsSent e) ⊎ ((e ≡ refused 20) ⊎ (e ≡ refused 21))

passed_to : (c : Call) → IsPassed c → (a : Option ℕ) (kind : ℕ) (text : List ℕ) → Passed c (encoding_to a (is_taken c) kind text)
passed_to c h none kind text = inr (inl refl)
passed_to c h (some a) kind text =
    cond-by (Passed c) (is_taken c) _ _ (λ t. inl (taken_request c h t, tt)) (λ _. inr (inr refl))

pub passed : (room dest : ℕ) (c : Call) → IsPassed c → 64 ≤ room
    → (IsRequest (request_for c) × IsSent (encoding_for room dest c))
    ⊎ ((encoding_for room dest c ≡ refused 20) ⊎ (encoding_for room dest c ≡ refused 21))
unfolding encoding_of
passed room dest c h big =
    rw (le-ltb room 64 big, taken_as c) (passed_to c h (address_in (destination_of dest)) (request_type (request_for c)) (request_text (request_for c)))

pub all-address : address_in (destination_of 256) ≡ some 0x2A
unfolding destination_of
all-address = refl

pub own_address : (i : Identity) (m : List ℕ) → Ready i m → address_in (destination_of i.id) ≡ some (0x40 + i.id)
unfolding destination_of
own_address i m ready =
    let n = named i m ready.rests in
    rw (ne_eqb i.id 256 (λ q. omega (arith, n.most)), le-leb 1 i.id n.least, le-leb i.id 8 n.most)

-- ---- the arguments are in the packet

-- the call of a request
abbrev call_for : Request → Call
call_for (get_parameter page code) = encode_get page code
call_for (set_parameter page code value) = encode_set page code value
call_for power_read = encode_power_read
call_for (power_control mode) = encode_power_control mode
call_for date_read = encode_date_read
call_for (date_write d) = encode_date_write d.year d.month d.day d.weekday d.hour d.minute d.daylight
call_for (item_read Item.Serial) = encode_serial_read
call_for (item_read Item.Model) = encode_model_read
call_for (item_read Item.Tag) = encode_tag_read
call_for (item_read Item.FormerTag) = encode_former_tag_read
call_for (tag_write tag) = encode_tag_write tag
call_for (schedule (schedule_read k)) = encode_schedule_read k
call_for (schedule (schedule_write ns)) =
    encode_schedule_write (get_or ns 0 0) (get_or ns 1 0) (get_or ns 2 0) (get_or ns 3 0) (get_or ns 4 0) (get_or ns 5 0) (get_or ns 6 0) (get_or ns 7 0)
call_for (schedule (schedule_enable k enable)) = encode_schedule_enable k enable

call_back : (c : Call) → call_for (request_for c) ≡ c
call_back (encode_get page code) = refl
call_back (encode_set page code value) = refl
call_back encode_power_read = refl
call_back (encode_power_control mode) = refl
call_back encode_date_read = refl
call_back (encode_date_write yy mm dd ww hh mn ds) = refl
call_back encode_serial_read = refl
call_back encode_model_read = refl
call_back encode_tag_read = refl
call_back encode_former_tag_read = refl
call_back (encode_tag_write tag) = refl
call_back (encode_schedule_read k) = refl
call_back (encode_schedule_write k on-hour on-minute off-hour off-minute input week flags) = refl
call_back (encode_schedule_enable k enable) = refl

-- the destination of an address
abbrev destination_at : ℕ → ℕ
destination_at address = cond (eqb address 0x2A) 256 (address - 0x40)

destination-back : (dest to : ℕ) → address_in (destination_of dest) ≡ some to → destination_at to ≡ dest
unfolding destination_of
destination-back dest to =
    cond-by (λ (d : Destination). address_in d ≡ some to → destination_at to ≡ dest) (eqb dest 256) _ _
    (λ t e. let is : to ≡ 0x2A = cc in rw is (sym (eqb-true dest 256 t)))
    (λ _. cond-by (λ (o : Option ℕ). o ≡ some to → destination_at to ≡ dest) (leb 1 dest && leb dest 8) _ _
    (λ _ e. let is : to ≡ 0x40 + dest = cc in rw (is, ne_eqb (0x40 + dest) 0x2A (λ q. omega arith)) (omega arith)) (λ _ e. cc))

module _ (room dest : ℕ) (c : Call) (p : List ℕ) (h : IsPassed c) (e : encoding_for room dest c ≡ sends p) where
  -- the destination and the request are read from the packet
  encoded-back : (destination_at (get_or p 2 0) ≡ dest) × (request_in (get_or p 4 0) (packet_text p) ≡ some (request_for c))
  unfolding packet packet_with
  encoded-back =
      let r = request_for c in
      let x = sent (request_type r) (request_text r) p room (destination_of dest) _ e in
      let is = taken_request c h (sym (taken_as c) ∙ x.in_range_law) in
      rw (x.is, written-text x.to zero_byte (request_type r) (request_text r) (request-length r is).1)
      (destination-back dest x.to x.known, request-back r is)

pub arguments : (room room' dest dest' : ℕ) (c c' : Call) (packet : List ℕ) → IsPassed c → IsPassed c'
    → encoding_for room dest c ≡ sends packet → encoding_for room' dest' c' ≡ sends packet → (dest ≡ dest') × (c ≡ c')
arguments room room' dest dest' c c' p h h' e e' =
    let x = encoded-back room dest c p h e in
    let y = encoded-back room' dest' c' p h' e' in
    let same = some-injective (request_for c) (request_for c') (sym x.1 ∙ y.1) in
    (sym x.0 ∙ y.0, sym (call_back c) ∙ ap call_for same ∙ call_back c')
