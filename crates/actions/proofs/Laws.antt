-- A date that is accepted may be stored, what was found is a row of the list, and a tag in the store counts at most 16 bytes.
use mathlib.Core.Path.{◌≡◌, refl, sym, ap, ◌∙◌}
use mathlib.Core.Bool.{true}
use mathlib.Core.List.{List}
use Prim.Native.Nat.{ℕ, ◌≤◌}
use native.Mathlib.Omega.{arith}
use lib.Dec.{leb}
use lib.ListN.{length}
use borrow.Author.Tests.{leb-true, le-leb}
use Rattle.std.specs.Prelude as std
use Rattle.messages.specs.declared.message.Date.{Date}
use Rattle.calendar.specs.Calendar.{is_accepted}
use Rattle.calendar.proofs.DayLaws.{month-most, day-facts, weekday-most}
use Rattle.calendar.proofs.DateLaws.{accepted}
use Rattle.store.specs.Fields.{Field, read}
use Rattle.store.specs.Layout.{tag_length, former_length}
use Rattle.wire.specs.Digits.{found}
use Rattle.store.specs.Settings.{setting_at, Listed}
use Rattle.store.specs.Contents.{is_storable}
use Rattle.store.specs.declared.settings.Row.{Row}
use Rattle.wire.proofs.Tests.{both}
use Rattle.store.proofs.StoreLaws.{is_field, in_range-one}
use Rattle.store.proofs.SettingLaws.{setting-listed}
use Rattle.layouts.proofs.RangeLaws.{range-fields}
use Rattle.actions.specs.Inner.{StoreInRange}

-- a date that is accepted may be stored
pub accepted-storable : (d : Date) → is_accepted d ≡ true → is_storable d ≡ true
unfolding is_storable
accepted-storable d e =
    let a = accepted d e in
    let f = day-facts d.year d.month d.day a.is_day_law in
    let day : d.day ≤ 31 = omega (arith, month-most d.year d.month) in
    let weekday : d.weekday ≤ 6 = omega (arith, weekday-most d.year d.month d.day) in
    rw (
      le-leb 0 d.year (omega arith),
      le-leb d.year 99 f.year_most,
      le-leb 1 d.month f.month_least,
      le-leb d.month 12 f.month_last,
      le-leb 1 d.day f.day_least,
      le-leb d.day 31 day,
      le-leb 0 d.weekday (omega arith),
      le-leb d.weekday 6 weekday,
      le-leb 0 d.hour (omega arith),
      le-leb d.hour 23 a.hour,
      le-leb 0 d.minute (omega arith),
      le-leb d.minute 59 a.minute,
    )

-- what was found at a page and a code is a row of the list
pub row_listed : (page code : ℕ) (r : Row) {f : std.Option Row} → found f ≡ setting_at page code → f ≡ std.Some r → Listed r
row_listed page code r e q = setting-listed page code r (sym e ∙ ap found q)

-- in a store that is in range a field holds at most what it may
field_at-most : (m : List ℕ) (f : Field) → StoreInRange m → is_field f ≡ true → read m f ≤ f.most
field_at-most m f r e = leb-true (read m f) f.most (both (leb f.least (read m f)) (leb (read m f) f.most) (in_range-one m f (range-fields m r.ranged) e)).1

pub tag_few : (m : List ℕ) → StoreInRange m → (length m ≡ 128) × (read m tag_length ≤ 16)
tag_few m r = (r.size, field_at-most m tag_length r refl)

pub former_few : (m : List ℕ) → StoreInRange m → (length m ≡ 128) × (read m former_length ≤ 16)
former_few m r = (r.size, field_at-most m former_length r refl)
