-- What a reply is: its text is short enough for a packet that fits a lent buffer, so that its length is the packet's own, L + 9.
use mathlib.Core.Path.{◌≡◌, refl, sym, ◌∙◌, subst}
use mathlib.Core.Bool.{true, ◌&&◌}
use mathlib.Core.List.{List}
use mathlib.Core.Option.{Option, none, some}
use Prim.Native.Nat.{ℕ, ◌+◌, ◌≤◌}
use native.Mathlib.Nat.{min-le_left}
use native.Mathlib.Omega.{arith}
use lib.Dec.{eqb, leb}
use lib.ListN.{length, take, drop, length-take, length-append}
use borrow.Author.Tests.{leb-true}
use Rattle.plan.specs.Stores.{Entry}
use Rattle.wire.specs.Packet.{address_of, zero_byte, size}
use Rattle.wire.specs.Digits.{hex_of}
use Rattle.wire.proofs.Tests.{cond-by, both}
use Rattle.wire.proofs.DigitLaws.{hex_length}
use Rattle.wire.proofs.PacketLaws.{written-length, written-size}
use Rattle.messages.specs.Message.{ScheduleRequest, Request, Reply}
use Rattle.messages.specs.Message.ScheduleRequest.{schedule_read, schedule_write, schedule_enable}
use Rattle.messages.specs.Message.Request.{get_parameter, set_parameter, power_read, power_control, date_read, date_write, item_read, tag_write, schedule}
use Rattle.messages.specs.Text.{date_text, parameter_text, item_reply_name, schedule_reply_text, reply_type, reply_text}
use Rattle.messages.specs.Read.{request_in}
use Rattle.messages.specs.declared.message.Item.{Item}
use Rattle.store.specs.Fields.{Field, read}
use Rattle.layouts.specs.Layouts.{in_range}
use Rattle.layouts.proofs.RangeLaws.{range-fields}
use Rattle.store.specs.Layout.{tag_length, former_length, tag_place, former_tag_place}
use Rattle.store.specs.Settings.{setting_at, accepts}
use Rattle.store.specs.Contents.{is_on, tag_of, former_tag_of}
use Rattle.store.specs.declared.settings.Row.{Row}
use Rattle.store.proofs.StoreLaws.{is_field, in_range-one}
use Rattle.calendar.specs.Calendar.{is_accepted}
use Rattle.schedule.specs.Numbers.{is_accepted as accepts-program, is_listed, is_enable, shown_program}
use Rattle.schedule.proofs.NumberLaws.{shown-length}
use Rattle.calls.specs.Board.{Identity}
use Rattle.actions.specs.Act.{
  Effect,
  replies,
  begins,
  is_erase,
  get_listed,
  get_effect,
  set_listed,
  set_effect,
  power_read_effect,
  power_control_effect,
  date_write_effect,
  schedule_write_effect,
  schedule_enable_effect,
  schedule_effect,
  item_of,
  effect_of,
  effect,
}
use Rattle.packets.specs.Packets.{is_identity, reply_with, reply_from}
use Rattle.packets.proofs.EffectLaws.{SixteenIn, FewIn, Few, request-few}
use Rattle.packets.proofs.IdentityLaws.{Named, named_told}

-- ---- a reply's packet

-- STX and ETX, and L + 9 bytes
pub reply-length : (i : Identity) (r : Reply) → length (reply_from i r) ≡ length (reply_text r) + 11
unfolding reply_with
reply-length i r = written-length zero_byte (address_of i.id) (reply_type r) (reply_text r)

pub reply-size : (i : Identity) (r : Reply) → length (reply_text r) ≤ 62 → size (reply_from i r) ≡ length (reply_from i r)
unfolding reply_with
reply-size i r h = written-size zero_byte (address_of i.id) (reply_type r) (reply_text r) h ∙ sym (reply-length i r)

-- ---- the texts of replies

-- a text that a packet of at most 64 bytes can hold
abbrev pub Fitting : Reply → Type 0
Fitting r = (2 ≤ length (reply_text r)) × (length (reply_text r) ≤ 53)

abbrev Fits : Effect → Type 0
Fits (replies r es) = Fitting r
Fits begins = Unit {0}

pub name-length : (x : Item) → length (item_reply_name x) ≡ 4
name-length Item.Serial = refl
name-length Item.Model = refl
name-length Item.Tag = refl
name-length Item.FormerTag = refl

-- a text in the store is no longer than its length field says
tag_few : (m : List ℕ) (f : Field) (at : ℕ) → is_field f ≡ true → f.most ≡ 16 → in_range m ≡ true → length (take (read m f) (drop at m)) ≤ 16
tag_few m f at e most r =
    let h = both (leb f.least (read m f)) (leb (read m f) f.most) (in_range-one m f (range-fields m r) e) in
    let k = leb-true (read m f) f.most h.1 in
    rw length-take (omega (arith, min-le_left (read m f) (length (drop at m))))

module _ (i : Identity) (m : List ℕ) (n : Named i) (ranged : in_range m ≡ true) where
  pub item_few : (x : Item) → length (item_of i m x) ≤ 16
  unfolding tag_of former_tag_of
  item_few Item.Serial = n.serial
  item_few Item.Model = n.model
  item_few Item.Tag = tag_few m tag_length tag_place refl refl ranged
  item_few Item.FormerTag = tag_few m former_length former_tag_place refl refl ranged

  get-fits : (page code : ℕ) (q : Option Row) → Fitting (get_listed m page code q)
  unfolding reply_text parameter_text
  get-fits page code none = omega arith
  get-fits page code (some r) = omega arith

  set-fits : (page code v : ℕ) (q : Option Row) → Fits (set_listed m page code v q)
  unfolding reply_text parameter_text
  set-fits page code v none = omega arith
  set-fits page code v (some r) = cond-by Fits (is_on m && accepts r.values v) _ _ (λ _. omega arith) (λ _. omega arith)

  schedule-fits : (r : ScheduleRequest) → SixteenIn r → Fits (schedule_effect m r)
  unfolding schedule_effect schedule_write_effect schedule_enable_effect reply_text schedule_reply_text
  schedule-fits (schedule_read k) h =
      cond-by Fitting (is_listed k) _ _ (λ _. omega (arith, hex_length (shown_program m k), shown-length m k)) (λ _. omega arith)
  schedule-fits (schedule_write numbers) h =
      cond-by Fits (accepts-program numbers) _ _ (λ _. omega (arith, hex_length numbers)) (λ _. omega (arith, hex_length numbers))
  schedule-fits (schedule_enable k enable) h =
      cond-by Fits (is_listed k && is_enable enable) _ _ (λ _. omega arith) (λ _. omega arith)

  request-fits : (r : Request) → FewIn r → Fits (effect_of i m r)
  unfolding effect_of get_effect set_effect power_read_effect power_control_effect date_write_effect reply_text parameter_text date_text
  request-fits (get_parameter page code) h =
      cond-by Fitting (is_erase page code) _ _ (λ _. omega arith) (λ _. get-fits page code (setting_at page code))
  request-fits (set_parameter page code v) h =
      cond-by Fits (is_erase page code) _ _ (λ _. cond-by Fits (eqb v 1) _ _ (λ _. tt) (λ _. omega arith))
      (λ _. set-fits page code v (setting_at page code))
  request-fits power_read h = omega arith
  request-fits (power_control mode) h =
      cond-by Fits (eqb mode 1) _ _ (λ _. omega arith) (λ _. cond-by Fits (eqb mode 4) _ _ (λ _. omega arith) (λ _. omega arith))
  request-fits date_read h = omega arith
  request-fits (date_write d) h = cond-by Fits (is_accepted d) _ _ (λ _. omega arith) (λ _. omega arith)
  request-fits (item_read x) h =
      let l = length-append (item_reply_name x) (hex_of (item_of i m x)) in
      omega (arith, name-length x, hex_length (item_of i m x), item_few x)
  request-fits (tag_write tag) h = omega (arith, hex_length tag)
  request-fits (schedule r) h = schedule-fits r h

  option_fits : (q : Option Request) → Few q → Fits (effect i m q)
  unfolding reply_text
  option_fits none h = omega arith
  option_fits (some r) h = request-fits r h

pub effect-fits : (i : Identity) (m : List ℕ) (kind : ℕ) (text : List ℕ) {r : Reply} {es : List Entry} → is_identity i ≡ true → in_range m ≡ true
    → effect i m (request_in kind text) ≡ replies r es → Fitting r
effect-fits i m kind text n ranged is = subst Fits is (option_fits i m (named_told i n) ranged (request_in kind text) (request-few kind text))
