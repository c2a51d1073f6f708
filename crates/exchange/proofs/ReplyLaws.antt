-- Every reply of a board whose numbers are bytes has a text, and the station reads its packet as that reply of that board.
use mathlib.Core.Path.{◌≡◌, refl, subst}
use mathlib.Core.Bool.{true, ◌&&◌}
use mathlib.Core.List.{List, [], ◌∷◌}
use mathlib.Core.Option.{Option, none, some}
use Prim.Native.Nat.{ℕ, zero, suc, ◌+◌, ◌≤◌, ◌<◌}
use native.Mathlib.Omega.{arith}
use lib.Dec.{leb, ltb, eqb}
use lib.ListN.{length, take, drop}
use lib.Pow.{pow_mono}
use lib.Seq.{get_or-drop, drop-append_seam}
use borrow.Author.Tests.{leb-true, ltb-true}
use Rattle.plan.specs.Stores.{Entry}
use Rattle.wire.specs.Digits.{Bytes}
use Rattle.wire.specs.Packet.{address_of, over}
use Rattle.bitfield.proofs.Laws.{get-lt}
use Rattle.wire.proofs.Tests.{cond-by}
use Rattle.wire.proofs.PacketLaws.{over-take}
use Rattle.messages.specs.Message.{ScheduleRequest, Request, Reply, IsNumbers, IsScheduleRequest, IsRequest, IsReply, is_power_mode}
use Rattle.messages.specs.Message.ScheduleRequest.{schedule_read, schedule_write, schedule_enable}
use Rattle.messages.specs.Message.Request.{get_parameter, set_parameter, power_read, power_control, date_read, date_write, item_read, tag_write, schedule}
use Rattle.messages.specs.Read.{request_in}
use Rattle.messages.specs.declared.message.Item.{Item}
use Rattle.messages.proofs.ParseLaws.{Found, request-fits}
use Rattle.messages.proofs.RoundTrips.{reply-length}
use Rattle.messages.proofs.SpellingLaws.{reply-written}
use Rattle.store.specs.Fields.{Field, read}
use Rattle.store.specs.Layout.{year, month, day, weekday, hour, minute, tag_length, former_length, tag_place, former_tag_place}
use Rattle.layouts.specs.Layouts.{in_range}
use Rattle.store.specs.Settings.{Listed, field_of, setting_at, accepts, shown, current}
use Rattle.calendar.specs.Calendar.{is_accepted}
use Rattle.store.specs.Contents.{is_on, date_of, tag_of, former_tag_of}
use Rattle.store.specs.declared.settings.Values.{Values}
use Rattle.store.specs.declared.settings.Row.{Row}
use Rattle.store.proofs.SettingLaws.{each_setting, row_in-store, setting-listed}
use Rattle.store.proofs.FieldLaws.{get-byte}
use Rattle.schedule.specs.Numbers as program
use Rattle.schedule.specs.Numbers.{is_listed, is_enable, shown_program}
use Rattle.schedule.proofs.NumberLaws.{shown-length, shown-bytes}
use Rattle.calls.specs.Board.{Identity}
use Rattle.actions.specs.Act.{
  Effect,
  replies,
  begins,
  is_erase,
  get_listed,
  get_effect,
  set_listed,
  set_effect,
  power_read_effect,
  power_control_effect,
  date_write_effect,
  item_of,
  schedule_write_effect,
  schedule_enable_effect,
  schedule_effect,
  effect_of,
  effect,
}
use Rattle.packets.specs.Packets.{reply_with, reply_from}
use Rattle.packets.proofs.IdentityLaws.{Named}
use Rattle.packets.proofs.ReplyLaws.{item_few, reply-size}
use Rattle.station.specs.Read.{read_packet}
use Rattle.station.specs.Read as station
use Rattle.station.proofs.ReadSpelt.{spelt_read}
use Rattle.exchange.specs.Rows.{InBytes}
use Rattle.exchange.specs.Demand2.{IsRead}

-- ---- what a store shows

shown-below : (s : Values) (k : ℕ) → k < 65536 → shown s k < 65536
shown-below (Values.Range least most) k h = h
shown-below Values.Inputs k h =
    cond-by (λ (v : ℕ). v < 65536) (eqb k 0) _ _ (λ _. omega arith)
    (λ _. cond-by (λ (v : ℕ). v < 65536) (eqb k 1) _ _ (λ _. omega arith) (λ _. omega arith))

-- a setting's field has at most 16 bits
current-below : (m : List ℕ) (r : Row) → Listed r → current m r < 65536
unfolding current
current-below m r l =
    let p = row_in-store r l in
    let few : r.width ≤ 16 = omega arith in
    shown-below r.values (read m (field_of r)) (omega (arith, get-lt m r.at r.width, pow_mono few))

largest-below : (r : Row) → Listed r → r.largest < 65536
largest-below r l = ltb-true r.largest 65536 (each_setting (λ r. ltb r.largest 65536) r refl l)

-- a field of at most 8 bits holds a byte
read_below : (m : List ℕ) (f : Field) → leb f.width 8 ≡ true → read m f < 256
read_below m f e = get-byte m f.at f.width (leb-true f.width 8 e) refl

-- a part of bytes is bytes
bytes_take : (n : ℕ) (s : List ℕ) → Bytes s → Bytes (take n s)
bytes_take zero s h i = omega arith
bytes_take (suc n) [] h i = h i
bytes_take (suc n) (x ∷ s) h zero = h zero
bytes_take (suc n) (x ∷ s) h (suc i) = bytes_take n s (λ j. h (suc j)) i

pub bytes-part : (n at : ℕ) (s : List ℕ) → Bytes s → Bytes (take n (drop at s))
bytes-part n at s h = bytes_take n (drop at s) (λ i. rw (get_or-drop at s i 0) (h (at + i)))

-- ---- every reply has a text

abbrev Sayable : Effect → Type 0
Sayable (replies r es) = IsReply r
Sayable begins = Unit {0}

module _ (m : List ℕ) where
  pub get-sayable : (page code : ℕ) → page < 256 → code < 256 → (q : Option Row) → setting_at page code ≡ q → IsReply (get_listed m page code q)
  get-sayable page code p c none e =
      record { result = omega arith; page = p; code = c; operation = omega arith; largest = omega arith; value = omega arith }
  get-sayable page code p c (some r) e =
      let l = setting-listed page code r e in
      record { result = omega arith; page = p; code = c; operation = omega arith; largest = largest-below r l; value = current-below m r l }

  set_sayable : (page code v : ℕ) → page < 256 → code < 256 → v < 65536 → (q : Option Row) → setting_at page code ≡ q → Sayable (set_listed m page code v q)
  set_sayable page code v p c w none e =
      record { result = omega arith; page = p; code = c; operation = omega arith; largest = omega arith; value = w }
  set_sayable page code v p c w (some r) e =
      let l = largest-below r (setting-listed page code r e) in
      cond-by Sayable (is_on m && accepts r.values v) _ _
      (λ _. record { result = omega arith; page = p; code = c; operation = omega arith; largest = l; value = w })
      (λ _. record { result = omega arith; page = p; code = c; operation = omega arith; largest = l; value = w })

  pub program_sayable : (k : ℕ) → k < 256 → IsNumbers (shown_program m k)
  program_sayable k h = record { sixteen = shown-length m k; bytes = shown-bytes m k h }

  schedule_sayable : (r : ScheduleRequest) → IsScheduleRequest r → Sayable (schedule_effect m r)
  unfolding schedule_effect schedule_write_effect schedule_enable_effect
  schedule_sayable (schedule_read k) h = cond-by IsReply (is_listed k) _ _ (λ _. program_sayable k h) (λ _. tt)
  schedule_sayable (schedule_write numbers) h =
      cond-by Sayable (program.is_accepted numbers) _ _ (λ _. (omega arith, h)) (λ _. (omega arith, h))
  schedule_sayable (schedule_enable k enable) h =
      cond-by Sayable (is_listed k && is_enable enable) _ _ (λ _. (omega arith, h.0, h.1)) (λ _. (omega arith, h.0, h.1))

module _ (i : Identity) (m : List ℕ) (b : InBytes i m) (n : Named i) (ranged : in_range m ≡ true) where
  item_bytes_lem : (x : Item) → Bytes (item_of i m x)
  unfolding tag_of former_tag_of
  item_bytes_lem Item.Serial = b.serial
  item_bytes_lem Item.Model = b.model
  item_bytes_lem Item.Tag = bytes-part (read m tag_length) tag_place m b.store
  item_bytes_lem Item.FormerTag = bytes-part (read m former_length) former_tag_place m b.store

  request-sayable : (r : Request) → IsRequest r → Sayable (effect_of i m r)
  unfolding effect_of get_effect set_effect power_read_effect power_control_effect date_write_effect date_of
  request-sayable (get_parameter page code) h =
      cond-by IsReply (is_erase page code) _ _
      (λ _. record { result = omega arith; page = h.0; code = h.1; operation = omega arith; largest = omega arith; value = omega arith })
      (λ _. get-sayable m page code h.0 h.1 (setting_at page code) refl)
  request-sayable (set_parameter page code v) h =
      cond-by Sayable (is_erase page code) _ _
      (λ _. cond-by Sayable (eqb v 1) _ _ (λ _. tt)
      (λ _. record { result = omega arith; page = h.0; code = h.1; operation = omega arith; largest = omega arith; value = h.2 }))
      (λ _. set_sayable m page code v h.0 h.1 h.2 (setting_at page code) refl)
  request-sayable power_read h = (omega arith, cond-by (λ (mode : ℕ). is_power_mode mode ≡ true) (is_on m) 1 4 (λ _. refl) (λ _. refl))
  request-sayable (power_control mode) h =
      cond-by Sayable (eqb mode 1) _ _ (λ _. (omega arith, h))
      (λ _. cond-by Sayable (eqb mode 4) _ _ (λ _. (omega arith, h)) (λ _. (omega arith, h)))
  request-sayable date_read h =
      record {
        year = read_below m year refl;
        month = read_below m month refl;
        day = read_below m day refl;
        weekday = read_below m weekday refl;
        hour = read_below m hour refl;
        minute = read_below m minute refl;
        daylight = omega arith;
      }
  request-sayable (date_write d) h = cond-by Sayable (is_accepted d) _ _ (λ _. (omega arith, h)) (λ _. (omega arith, h))
  request-sayable (item_read x) h = record { few = item_few i m n ranged x; bytes = item_bytes_lem x }
  request-sayable (tag_write tag) h = (omega arith, h)
  request-sayable (schedule r) h = schedule_sayable m r h

  option_sayable : (q : Option Request) → Found IsRequest q → Sayable (effect i m q)
  option_sayable none h = tt
  option_sayable (some r) h = request-sayable r h

  pub effect_sayable : (kind : ℕ) (text : List ℕ) {r : Reply} {es : List Entry} → effect i m (request_in kind text) ≡ replies r es → IsReply r
  effect_sayable kind text is = subst Sayable is (option_sayable (request_in kind text) (request-fits kind text))

-- ---- a reply's packet

module _ (i : Identity) (n : Named i) (r : Reply) (h : IsReply r) where
  pub reply-read : read_packet (reply_from i r) ≡ station.reply i.id r
  unfolding reply_with
  reply-read = spelt_read i.id r n.least n.most h (reply_from i r) (reply-written (address_of i.id) r)

  pub reply-is_read : (lent : List ℕ) → IsRead i.id (length (reply_from i r)) r lent (over (reply_from i r) lent)
  unfolding over
  reply-is_read lent =
      let p = reply_from i r in
      let first = over-take p lent (length p) refl in
      record {
        read = rw first reply-read;
        whole = rw first (reply-size i r (reply-length r h).1);
        rest = drop-append_seam p (drop (length p) lent);
      }
