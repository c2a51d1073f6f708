-- The unused board's bytes, computed: each field and each setting holds its unused value, the board is on and has no tags.
use mathlib.Core.Path.{◌≡◌, refl}
use mathlib.Core.Bool.{true}
use mathlib.Core.List.{[]}
use lib.Dec.{eqb}
use lib.ListN.{length, get_or}
use borrow.Author.Tests.{eqb-true}
use Rattle.bitfield.specs.Field.{get_field, bit, bit_of}
use Rattle.store.specs.Fields.{Field, read}
use Rattle.store.specs.Layout.{fields, fields_in_range}
use Rattle.schedule.specs.Programs.{first_in_range}
use Rattle.layouts.specs.Layouts.{in_range, unused_store}
use Rattle.store.specs.declared.settings.Row.{Row}
use Rattle.store.specs.Settings.{settings, Listed, current}
use Rattle.store.specs.Contents.{is_on, date_of, tag_of, former_tag_of}
use Rattle.store.proofs.Tables.{each}
use Rattle.store.proofs.StoreLaws.{is_field, each_one}
use Rattle.store.proofs.SettingLaws.{each_setting}

pub unused-length : length unused_store ≡ 128
unfolding unused_store
unused-length = refl

pub unused-mark : get_or unused_store 0 0 ≡ 1
unfolding unused_store
unused-mark = refl

pub unused_in-range : in_range unused_store ≡ true
unfolding in_range fields_in_range first_in_range unused_store get_field bit bit_of
unused_in-range = refl

pub unused-fields : each (λ f. eqb (read unused_store f) f.unused) fields ≡ true
unfolding unused_store get_field bit bit_of
unused-fields = refl

pub unused-field : (f : Field) → is_field f ≡ true → read unused_store f ≡ f.unused
unused-field f e =
    eqb-true (read unused_store f) f.unused (each_one (λ f. eqb (read unused_store f) f.unused) fields f unused-fields e)

unused-settings : each (λ r. eqb (current unused_store r) r.unused) settings ≡ true
unfolding current unused_store get_field bit bit_of
unused-settings = refl

pub unused-setting : (r : Row) → Listed r → current unused_store r ≡ r.unused
unused-setting r l =
    eqb-true (current unused_store r) r.unused (each_setting (λ r. eqb (current unused_store r) r.unused) r unused-settings l)

pub unused-on : is_on unused_store ≡ true
unfolding is_on unused_store get_field bit bit_of
unused-on = refl

-- Saturday 1 January 2000
pub unused-date : date_of unused_store ≡ record { year = 0; month = 1; day = 1; weekday = 6; hour = 0; minute = 0; daylight = 0 }
unfolding date_of unused_store get_field bit bit_of
unused-date = refl

pub unused-tag : tag_of unused_store ≡ []
unfolding tag_of unused_store get_field bit bit_of
unused-tag = refl

pub unused-former_tag : former_tag_of unused_store ≡ []
unfolding former_tag_of unused_store get_field bit bit_of
unused-former_tag = refl
