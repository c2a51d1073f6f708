-- Power, date, serial number, model and tags: what each reads, and what each stores, which the other reads get no part of.
use mathlib.Core.Path.{◌≡◌, refl, sym, ap, ◌∙◌, subst}
use mathlib.Core.Bool.{Bool, true, false, cond, ◌||◌, false≢true}
use mathlib.Core.Logic.{◌≢◌, ◌⊎◌, inl, inr, ⊎_elim}
use mathlib.Core.List.{List, [], ◌++◌}
use Prim.Native.Nat.{ℕ, zero, suc, ◌-◌, ◌≤◌, ◌<◌}
use native.Mathlib.Nat.{sub-zero, zero-sub, suc-sub-suc}
use native.Mathlib.Omega.{arith}
use lib.Dec.{eqb}
use lib.ListN.{length, drop, replicate}
use borrow.Author.Tests.{le-leb, ne_eqb}
use Rattle.messages.specs.Message.{IsItem, IsDate}
use Rattle.messages.specs.Message.Request.{power_read, power_control, date_read, date_write, item_read, tag_write}
use Rattle.messages.specs.Message.Reply.{power_read_reply, power_control_reply, date_read_reply, date_write_reply, item_reply, tag_write_reply}
use Rattle.messages.specs.declared.message.Date.{Date}
use Rattle.messages.specs.declared.message.Item.{Item}
use Rattle.store.specs.Fields.{field_stores}
use Rattle.store.specs.Layout.{power, tag_length}
use Rattle.calendar.specs.Calendar.{is_accepted}
use Rattle.calendar.specs.DayByDay.{InDays}
use Rattle.calendar.proofs.DayLaws.{day-as}
use Rattle.calendar.proofs.DateLaws.{accepted}
use Rattle.calendar.proofs.DayByDay.{day-by_day}
use Rattle.store.specs.Contents.{is_on, date_of, is_storable, with_date, date_stores, tag_of, former_tag_of, tag_stores}
use Rattle.wire.specs.Digits.{padded}
use Rattle.store.proofs.StoreLaws.{field-applied}
use Rattle.layouts.proofs.RangeLaws.{range-fields}
use Rattle.store.proofs.SettingLaws.{power-moves}
use Rattle.store.proofs.DateLaws.{storable_fits, date_keeps_field, date_keeps_byte, standard_shown, date_applied}
use Rattle.store.proofs.TagLaws.{TagWritten, tag_written_lem, tag_shown_law, former_shown_law}
use Rattle.calls.specs.Board.{Identity}
use Rattle.plan.specs.Stores.{applied}
use Rattle.actions.proofs.Laws.{accepted-storable}
use Rattle.actions.specs.Act.{replies, says, power_read_effect, power_control_effect, date_write_effect, item_of, effect_of}
use Rattle.packets.specs.Packets.{holding}
use Rattle.exchange.specs.Rows.{Idle, Ready, Asks, Shows, Changes, is_within, IsOn, IsStandby, is_power_read}
use Rattle.exchange.specs.Rows.{date_in, takes_date, is_date_read, tag_in, former_tag_in, is_tag_read, may_change_tags, TagsMoved}
use Rattle.exchange.proofs.RowLaws.{rest, shows, ready-sayable, ready-shows}
use Rattle.exchange.proofs.StoreBytes.{field-bytes, date_bytes, tag_bytes}
use Rattle.exchange.proofs.KeptLaws.{Elsewhere, Clear, bit-apart, bit-same, elsewhere, field-elsewhere, length-few, changes}
use Rattle.exchange.proofs.Sets.{before-power}

-- ---- power

power-shows : {i : Identity} {u : List ℕ} → Idle (holding i []) u → (on : Bool) → is_on u ≡ on → Shows i u power_read (power_read_reply 0 (cond on 1 4))
unfolding effect_of power_read_effect
power-shows {i} {u} idle true e = shows i u idle power_read tt (rw e) (omega arith, refl)
power-shows {i} {u} idle false e = shows i u idle power_read tt (rw e) (omega arith, refl)

power-clear : Clear is_power_read 53 1
power-clear =
    record {
      settings = λ r l _. inr (before-power r l);
      power = λ n. absurd (false≢true (sym n));
      date = λ _. inl (omega arith);
      tags = λ _ _ _. inl (omega arith);
      programs = λ _ _ _. inl (omega arith);
    }

module _ (i : Identity) (m : List ℕ) (ready : Ready i m) where
  pub power_on : IsOn m → Shows i m power_read (power_read_reply 0 1)
  unfolding is_on
  power_on on = power-shows ready.rests true (rw on)

  pub power_standby : IsStandby m → Shows i m power_read (power_read_reply 0 4)
  unfolding is_on
  power_standby off = power-shows ready.rests false (rw off)

  abbrev Moves : ℕ → ℕ → Type 0
  Moves mode after = Changes i m (power_control mode) (power_control_reply 0 mode) is_power_read (is_within 53 1)
      (λ m'. Shows i m' power_read (power_read_reply 0 after))

  power-changes : (mode v : ℕ) → mode < 65536 → v ≤ 1 → effect_of i m (power_control mode) ≡ replies (power_control_reply 0 mode) (field_stores m power v)
      → Moves mode (cond (eqb v 1) 1 4)
  power-changes mode v h b is =
      changes ready (power_control mode) h is (field-applied m power v) (field-bytes m power v ready.in_bytes.store)
      (field-elsewhere m power v) power-clear
      (λ idle. power-shows idle (eqb v 1) (power-moves m v (omega (arith, (rest i m ready.rests).size)) b))

  pub power_control_law : (mode : ℕ) → (mode ≡ 1) ⊎ (mode ≡ 4) → Moves mode mode
  unfolding effect_of power_control_effect
  power_control_law mode o =
      ⊎_elim (λ q. subst (λ (mode : ℕ). Moves mode mode) (sym q) (power-changes 1 1 (omega arith) (omega arith) refl))
      (λ q. subst (λ (mode : ℕ). Moves mode mode) (sym q) (power-changes 4 0 (omega arith) (omega arith) refl)) o

  pub power_refused : (mode : ℕ) → mode < 65536 → mode ≢ 1 → mode ≢ 4 → Asks i m (power_control mode) (power_control_reply 1 mode) m
  unfolding effect_of power_control_effect
  power_refused mode h n k = ready-shows i m ready (power_control mode) h (rw (ne_eqb mode 1 n, ne_eqb mode 4 k))

-- ---- date

storable_is_date : (d : Date) → is_storable d ≡ true → d.daylight ≡ 0 → IsDate d
storable_is_date d h e =
    let f = storable_fits d h in
    record {
      year = omega arith;
      month = omega arith;
      day = omega arith;
      weekday = omega arith;
      hour = omega arith;
      minute = omega arith;
      daylight = omega arith;
    }

-- the definition, with the range of the month written out
pub takes-as : (d : Date) → is_accepted d ≡ takes_date d
unfolding is_accepted
takes-as d =
    rw (le-leb 0 d.year (omega arith), le-leb 0 d.hour (omega arith), le-leb 0 d.minute (omega arith), ← day-as d.year d.month d.day)

pub dates_in_days : (d : Date) → takes_date d ≡ true → InDays d
dates_in_days d h = day-by_day.accepted_in_days d (takes-as d ∙ h)

pub days_taken : (d : Date) → InDays d → d.hour ≤ 23 → d.minute ≤ 59 → d.daylight ≡ 0 → takes_date d ≡ true
days_taken d i hour minute daylight = sym (takes-as d) ∙ day-by_day.in_days_accepted d i hour minute daylight

pub date_elsewhere : (m : List ℕ) (d : Date) → Elsewhere (is_within 54 30) 54 30 m (with_date m d)
date_elsewhere m d =
    elsewhere 54 30 m (with_date m d) (date_keeps_field m d)
    (λ j a. date_keeps_byte m d j (⊎_elim (λ x. inr (omega arith)) (λ x. inl (omega arith)) a))

date_clear : Clear is_date_read 54 30
date_clear =
    record {
      settings = λ r l _. inr (omega (arith, before-power r l));
      power = λ _. inr (omega arith);
      date = λ n. absurd (false≢true (sym n));
      tags = λ _ _ _. inl (omega arith);
      programs = λ _ _ _. inl (omega arith);
    }

module _ (i : Identity) (m : List ℕ) (ready : Ready i m) where
  pub date_read_law : Shows i m date_read (date_read_reply (date_in m))
  unfolding effect_of date_of
  date_read_law = ready-shows i m ready date_read tt refl

  pub date_shows : (d : Date) → is_storable d ≡ true → d.daylight ≡ 0 → Idle (holding i []) (with_date m d) → Shows i (with_date m d) date_read (date_read_reply d)
  unfolding effect_of
  date_shows d h e idle =
      shows i (with_date m d) idle date_read tt
      (ap (λ (d : Date). says (date_read_reply d)) (standard_shown m d (omega (arith, (rest i m ready.rests).size)) h e)) (storable_is_date d h e)

  pub date_write_law : (d : Date) → takes_date d ≡ true
      → Changes i m (date_write d) (date_write_reply 0 d) is_date_read (is_within 54 30) (λ m'. Shows i m' date_read (date_read_reply d))
  unfolding effect_of date_write_effect
  date_write_law d h =
      let a = takes-as d ∙ h in
      let s = accepted-storable d a in
      let none = (accepted d a).daylight in
      changes {es = date_stores m d} ready (date_write d) (storable_is_date d s none) (rw a) (date_applied m d)
      (date_bytes m d ready.in_bytes.store) (date_elsewhere m d) date_clear (date_shows d s none)

  pub date_refused : (d : Date) → IsDate d → takes_date d ≡ false → Asks i m (date_write d) (date_write_reply 1 d) m
  unfolding effect_of date_write_effect
  date_refused d is h = ready-shows i m ready (date_write d) is (rw (takes-as d ∙ h))

-- ---- serial number, model and tags

item_shows : {i : Identity} {u : List ℕ} → Idle (holding i []) u → (x : Item) {bytes : List ℕ} → item_of i u x ≡ bytes → IsItem bytes
    → Shows i u (item_read x) (item_reply x bytes)
unfolding effect_of
item_shows {i} {u} idle x q is = shows i u idle (item_read x) tt (ap (λ (bytes : List ℕ). says (item_reply x bytes)) q) is

neither : (a b : Bool) → (a || b) ≡ false → (a ≡ false) × (b ≡ false)
neither true b h = absurd (false≢true (sym h))
neither false b h = (refl, h)

tag_elsewhere : (m tag u : List ℕ) → TagWritten m tag u → Elsewhere may_change_tags 84 268 m u
tag_elsewhere m tag u w =
    record {
      fields = λ at width a. w.fields at width (⊎_elim (λ x. inl (omega arith)) (λ x. inr x) a) (⊎_elim (λ x. inl x) (λ x. inr (omega arith)) a);
      bytes = λ j a. w.outside j (⊎_elim (λ x. inr (omega arith)) (λ x. inl (omega arith)) a);
      bits = λ k n.
          let b = neither (is_within 84 10 k) (is_within 96 256 k) n in
          bit-same m u k (w.fields k 1 (bit-apart 84 10 k b.0) (bit-apart 96 256 k b.1));
    }

-- the 00h behind a tag are as many as it lacks of 16
zeros_left : (n k : ℕ) → drop {A = ℕ} n (replicate k 0) ≡ replicate (k - n) 0
zeros_left zero k = rw sub-zero
zeros_left (suc n) zero = rw zero-sub
zeros_left (suc n) (suc k) = rw suc-sub-suc (zeros_left n k)

padded-is : (tag : List ℕ) → padded tag ≡ tag ++ replicate (16 - length tag) 0
unfolding padded
padded-is tag = ap (λ (s : List ℕ). tag ++ s) (zeros_left (length tag) 16)

tag_clear : Clear is_tag_read 84 268
tag_clear =
    record {
      settings = λ r l _. inr (omega (arith, before-power r l));
      power = λ _. inr (omega arith);
      date = λ _. inr (omega arith);
      tags = λ x t n. absurd (false≢true (sym n ∙ t));
      programs = λ _ _ _. inl (omega arith);
    }

module _ (i : Identity) (m : List ℕ) (ready : Ready i m) where
  pub serial_read : Shows i m (item_read Item.Serial) (item_reply Item.Serial i.serial)
  unfolding effect_of
  serial_read = ready-shows i m ready (item_read Item.Serial) tt refl

  pub model_read : Shows i m (item_read Item.Model) (item_reply Item.Model i.model)
  unfolding effect_of
  model_read = ready-shows i m ready (item_read Item.Model) tt refl

  pub tag_read : Shows i m (item_read Item.Tag) (item_reply Item.Tag (tag_in m))
  unfolding effect_of tag_of
  tag_read = ready-shows i m ready (item_read Item.Tag) tt refl

  pub former_read : Shows i m (item_read Item.FormerTag) (item_reply Item.FormerTag (former_tag_in m))
  unfolding effect_of former_tag_of
  former_read = ready-shows i m ready (item_read Item.FormerTag) tt refl

  tag_is_item : IsItem (tag_of m)
  unfolding effect_of
  tag_is_item = ready-sayable i m ready (item_read Item.Tag) {x = item_reply Item.Tag (tag_of m)} tt refl

  pub tag_write_law : (tag : List ℕ) → IsItem tag → Changes i m (tag_write tag) (tag_write_reply 0 tag) is_tag_read may_change_tags (TagsMoved i m tag)
  unfolding effect_of tag_of
  tag_write_law tag h =
      let u = applied (tag_stores m tag) m in
      let w = tag_written_lem m tag (rest i m ready.rests).size h.few in
      let few = length-few m tag_length refl refl (range-fields m (rest i m ready.rests).ranged) in
      changes {u = u} ready (tag_write tag) h refl refl (tag_bytes m tag ready.in_bytes.store h.bytes) (tag_elsewhere m tag u w) tag_clear
      (λ idle. record {
        tag_shown_law = item_shows idle Item.Tag (tag_shown_law m tag u h.few w) h;
        former_shown_law = item_shows idle Item.FormerTag (former_shown_law m tag u few w) tag_is_item;
        tag_bytes = w.bytes ∙ padded-is tag;
        former_bytes = w.former_bytes;
      })
