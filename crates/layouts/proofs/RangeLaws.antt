-- What is in range stays so through every change that a request makes: the fields by the laws of `store`, the programs by those of `schedule`.
use mathlib.Core.Path.{◌≡◌}
use mathlib.Core.Bool.{true}
use mathlib.Core.List.{List}
use mathlib.Core.Logic.{inr}
use Prim.Native.Nat.{ℕ, ◌+◌, ◌*◌, ◌≤◌, ◌<◌}
use native.Mathlib.Omega.{arith}
use lib.ListN.{length}
use Rattle.bitfield.specs.Field.{Apart}
use Rattle.messages.specs.declared.message.Date.{Date}
use Rattle.plan.specs.Stores.{applied}
use Rattle.store.specs.Fields.{Field, write, fits}
use Rattle.store.specs.Layout.{fields_in_range}
use Rattle.store.specs.Contents.{is_storable, with_date, tag_stores}
use Rattle.store.proofs.StoreLaws.{is_field, field-placed, RestKept, field-keeps_rest, in_range-write, in_range-same}
use Rattle.store.proofs.DateLaws.{in_range-date, date_keeps_rest}
use Rattle.store.proofs.TagLaws.{in_range_tag, tag_written_lem}
use Rattle.schedule.specs.Programs.{program_bit, with_program, enable_field, is_program, programs_in_range}
use Rattle.schedule.specs.Inner.{Fit}
use Rattle.schedule.proofs.ProgramLaws.{program_keeps_field, enable-keeps_field, in_range-kept, in_range-program, in_range-enable}
use Rattle.wire.proofs.Tests.{both}
use Rattle.store.proofs.FieldLaws.{and_same}
use Rattle.layouts.specs.Layouts.{in_range}

pub range-fields : (m : List ℕ) → in_range m ≡ true → fields_in_range m ≡ true
unfolding in_range
range-fields m h = (both (fields_in_range m) (programs_in_range m) h).0

pub range-programs : (m : List ℕ) → in_range m ≡ true → programs_in_range m ≡ true
unfolding in_range
range-programs m h = (both (fields_in_range m) (programs_in_range m) h).1

pub range-of : (m : List ℕ) → fields_in_range m ≡ true → programs_in_range m ≡ true → in_range m ≡ true
unfolding in_range
range-of m f p = and_same f p

-- what keeps the bytes behind the tags keeps the programs
rest-programs : (m u : List ℕ) → RestKept m u → programs_in_range m ≡ true → programs_in_range u ≡ true
rest-programs m u k h = in_range-kept u m (λ j a b. k.bytes j a) h

-- the fields lie before the programs
before-programs : (f : Field) (at width : ℕ) → is_field f ≡ true → 352 ≤ at → Apart at width f.at f.width
before-programs f at width e h = let p = field-placed f e in inr (omega (arith, p.before))

module _ (m : List ℕ) (size : length m ≡ 128) (ranged : in_range m ≡ true) where
  pub range-write : (f : Field) (v : ℕ) → is_field f ≡ true → f.at + f.width ≤ 8 * length m → fits f v ≡ true → in_range (write m f v) ≡ true
  range-write f v e within h =
      range-of (write m f v) (in_range-write m f v e within h (range-fields m ranged))
      (rest-programs m (write m f v) (field-keeps_rest m f v e) (range-programs m ranged))

  pub range-date : (d : Date) → is_storable d ≡ true → in_range (with_date m d) ≡ true
  range-date d h =
      range-of (with_date m d) (in_range-date m d (omega arith) h (range-fields m ranged))
      (rest-programs m (with_date m d) (date_keeps_rest m d) (range-programs m ranged))

  pub range-tag : (tag : List ℕ) → length tag ≤ 16 → in_range (applied (tag_stores m tag) m) ≡ true
  range-tag tag h =
      range-of (applied (tag_stores m tag) m) (in_range_tag m tag size h (range-fields m ranged))
      (rest-programs m (applied (tag_stores m tag) m) (tag_written_lem m tag size h).rest (range-programs m ranged))

  pub range-program : (k : ℕ) (fs : List ℕ) → k < 7 → length fs ≡ 7 → Fit fs → is_program fs ≡ true → in_range (with_program m k fs) ≡ true
  range-program k fs h seven fit is =
      range-of (with_program m k fs)
      (in_range-same m (with_program m k fs) (λ f e. program_keeps_field m k fs f.at f.width (before-programs f (program_bit k) 34 e (omega arith))) (range-fields m ranged))
      (in_range-program m k fs size h seven fit is (range-programs m ranged))

  pub range-enable : (k enable : ℕ) → k < 7 → enable ≤ 1 → in_range (write m (enable_field k) enable) ≡ true
  range-enable k enable h le =
      range-of (write m (enable_field k) enable)
      (in_range-same m (write m (enable_field k) enable)
      (λ f e. enable-keeps_field m k enable f.at f.width (before-programs f (program_bit k + 31) 1 e (omega arith))) (range-fields m ranged))
      (in_range-enable m k enable (range-programs m ranged))
