-- The date: six writes of fields, one after the other, so what holds through each write of a date field holds through them all.
use mathlib.Core.Path.{◌≡◌, refl, sym, ap, ◌∙◌}
use mathlib.Core.Bool.{true, cond, ◌&&◌}
use mathlib.Core.Logic.{◌⊎◌, inl, inr, ⊎_elim}
use mathlib.Core.List.{List}
use Prim.Native.Nat.{ℕ, ◌+◌, ◌*◌, ◌≤◌, ◌<◌}
use native.Mathlib.Omega.{arith}
use lib.Dec.{leb}
use lib.ListN.{length, get_or}
use borrow.Author.Tests.{leb-true}
use Rattle.bitfield.specs.Field.{get_field, Apart}
use Rattle.bitfield.proofs.Laws.{get-put_other, byte_put, length-put}
use Rattle.messages.specs.declared.message.Date.{Date}
use Rattle.plan.specs.Stores.{applied}
use Rattle.plan.specs.Inner.{Within}
use Rattle.store.specs.Fields.{Field, read, write, fits}
use Rattle.store.specs.Layout.{date_fields, year, month, day, weekday, hour, minute, fields_in_range}
use Rattle.store.specs.Inner.{DateFits}
use Rattle.store.specs.Contents.{date_of, is_storable, with_date, date_stores}
use Rattle.wire.proofs.Tests.{both}
use Rattle.store.proofs.StoreLaws.{is_same, is_among, is_field, each_one, fits_below, read-write_any, in_range-write}
use Rattle.store.proofs.StoreLaws.{RestKept, around_length, around_within, around_applied}

-- ---- the six writes

-- a date that may be stored, field by field
pub record Storable (d : Date) : Type 0 where
  pub year : fits year d.year ≡ true
  pub month : fits month d.month ≡ true
  pub day : fits day d.day ≡ true
  pub weekday : fits weekday d.weekday ≡ true
  pub hour : fits hour d.hour ≡ true
  pub minute : fits minute d.minute ≡ true

pub storable : (d : Date) → is_storable d ≡ true → Storable d
unfolding is_storable
storable d e =
    let f = both _ (fits minute d.minute) e in
    let h = both _ (fits hour d.hour) f.0 in
    let w = both _ (fits weekday d.weekday) h.0 in
    let t = both _ (fits day d.day) w.0 in
    let y = both (fits year d.year) (fits month d.month) t.0 in
    record { year = y.0; month = y.1; day = t.1; weekday = w.1; hour = h.1; minute = f.1 }

pub storable_fits : (d : Date) → is_storable d ≡ true → DateFits d
storable_fits d e =
    let s = storable d e in
    record {
      year = fits_below year d.year refl s.year;
      month = fits_below month d.month refl s.month;
      day = fits_below day d.day refl s.day;
      weekday = fits_below weekday d.weekday refl s.weekday;
      hour = fits_below hour d.hour refl s.hour;
      minute = fits_below minute d.minute refl s.minute;
    }

-- what each write of a date field keeps, a date write keeps
pub date_by : (P : List ℕ → Type 0) (m : List ℕ) (d : Date)
    → ((u : List ℕ) (f : Field) (v : ℕ) → is_among f date_fields ≡ true → (is_storable d ≡ true → fits f v ≡ true) → P u → P (write u f v))
    → P m → P (with_date m d)
unfolding with_date
date_by P m d step p =
    step _ minute d.minute refl (λ e. (storable d e).minute)
    (step _ hour d.hour refl (λ e. (storable d e).hour)
    (step _ weekday d.weekday refl (λ e. (storable d e).weekday)
    (step _ day d.day refl (λ e. (storable d e).day)
    (step _ month d.month refl (λ e. (storable d e).month)
    (step m year d.year refl (λ e. (storable d e).year) p)))))

-- a date field lies in the 30 bits of the date
date_field_in : (f : Field) → is_among f date_fields ≡ true → (54 ≤ f.at) × (f.at + f.width ≤ 84)
date_field_in f e =
    let inside = each_one (λ f. leb 54 f.at && leb (f.at + f.width) 84) date_fields f refl e in
    let b = both (leb 54 f.at) (leb (f.at + f.width) 84) inside in
    (leb-true 54 f.at b.0, leb-true (f.at + f.width) 84 b.1)

date_apart : (f : Field) (at width : ℕ) → is_among f date_fields ≡ true → Apart 54 30 at width → Apart f.at f.width at width
date_apart f at width e a = let b = date_field_in f e in ⊎_elim (λ x. inl (omega arith)) (λ x. inr (omega arith)) a

-- ---- what a date write leaves

pub date_length : (m : List ℕ) (d : Date) → length (with_date m d) ≡ length m
date_length m d = date_by (λ u. length u ≡ length m) m d (λ u f v _ _ p. length-put u f.at f.width v ∙ p) refl

-- every field that is no part of the date
pub date_keeps_field : (m : List ℕ) (d : Date) (at width : ℕ) → Apart 54 30 at width
    → get_field (with_date m d) at width ≡ get_field m at width
date_keeps_field m d at width a =
    date_by (λ u. get_field u at width ≡ get_field m at width) m d
    (λ u f v e _ p. get-put_other u f.at f.width v at width (date_apart f at width e a) ∙ p) refl

-- every byte but 6 to 10
pub date_keeps_byte : (m : List ℕ) (d : Date) (j : ℕ) → (j < 6) ⊎ (11 ≤ j) → get_or (with_date m d) j 0 ≡ get_or m j 0
date_keeps_byte m d j o =
    let a : Apart 54 30 (8 * j) 8 = ⊎_elim (λ x. inr (omega arith)) (λ x. inl (omega arith)) o in
    date_by (λ u. get_or u j 0 ≡ get_or m j 0) m d (λ u f v e _ p. byte_put u f.at f.width v j (date_apart f (8 * j) 8 e a) ∙ p) refl

pub date_keeps_rest : (m : List ℕ) (d : Date) → RestKept m (with_date m d)
date_keeps_rest m d =
    record { bits = date_keeps_field m d 94 2 (inl (omega arith)); bytes = λ j h. date_keeps_byte m d j (inr (omega arith)) }

pub in_range-date : (m : List ℕ) (d : Date) → 12 ≤ length m → is_storable d ≡ true → fields_in_range m ≡ true
    → fields_in_range (with_date m d) ≡ true
in_range-date m d l s r =
    (date_by (λ u. (12 ≤ length u) × (fields_in_range u ≡ true)) m d
    (λ u f v e h p. let b = date_field_in f e in (rw length-put p.0, in_range-write u f v (each_one is_field date_fields f refl e) (omega arith) (h s) p.1)) (l, r)).1

-- ---- what is read after a date write

-- what a field holds after a date write that held v before: one of the six values, or v
abbrev pub date_or : Date → Field → ℕ → ℕ
date_or d f v =
    cond (is_same minute f) d.minute
    (cond (is_same hour f) d.hour
    (cond (is_same weekday f) d.weekday
    (cond (is_same day f) d.day (cond (is_same month f) d.month (cond (is_same year f) d.year v)))))

-- what one field holds after some of the writes
record Reads (f : Field) (u : List ℕ) (x : ℕ) : Type 0 where
  size : 12 ≤ length u
  value : read u f ≡ x

next : {f : Field} {u : List ℕ} {x : ℕ} (g : Field) (v : ℕ) → is_field f ≡ true → is_among g date_fields ≡ true → fits g v ≡ true
    → Reads f u x → Reads f (write u g v) (cond (is_same g f) v x)
next {f} {u} {x} g v e d h r =
    let b = date_field_in g d in
    record {
      size = rw length-put r.size;
      value = read-write_any u g v (each_one is_field date_fields g refl d) (omega (arith, r.size)) h f e ∙ ap (cond (is_same g f) v) r.value;
    }

pub read-date : (m : List ℕ) (d : Date) (f : Field) → is_field f ≡ true → 12 ≤ length m → is_storable d ≡ true
    → read (with_date m d) f ≡ date_or d f (read m f)
unfolding with_date
read-date m d f e l h =
    let s = storable d h in
    let start : Reads f m (read m f) = record { size = l; value = refl } in
    (next minute d.minute e refl s.minute
    (next hour d.hour e refl s.hour
    (next weekday d.weekday e refl s.weekday
    (next day d.day e refl s.day (next month d.month e refl s.month (next year d.year e refl s.year start)))))).value

-- the same date, DS 0
abbrev pub standard : Date → Date
standard d =
    record {
      year = d.year;
      month = d.month;
      day = d.day;
      weekday = d.weekday;
      hour = d.hour;
      minute = d.minute;
      daylight = 0;
    }

pub date_shown_lem : (m : List ℕ) (d : Date) → 12 ≤ length m → is_storable d ≡ true → date_of (with_date m d) ≡ standard d
unfolding date_of
date_shown_lem m d l s =
    λ i. record {
      year = read-date m d year refl l s i;
      month = read-date m d month refl l s i;
      day = read-date m d day refl l s i;
      weekday = read-date m d weekday refl l s i;
      hour = read-date m d hour refl l s i;
      minute = read-date m d minute refl l s i;
      daylight = 0;
    }

-- and with DS 0 it is the date that was written
pub standard_shown : (m : List ℕ) (d : Date) → 12 ≤ length m → is_storable d ≡ true → d.daylight ≡ 0 → date_of (with_date m d) ≡ d
standard_shown m d l s z =
    date_shown_lem m d l s ∙ (λ i. record {
      year = d.year;
      month = d.month;
      day = d.day;
      weekday = d.weekday;
      hour = d.hour;
      minute = d.minute;
      daylight = sym z i;
    })

-- ---- what a date write stores

pub date_applied : (m : List ℕ) (d : Date) → applied (date_stores m d) m ≡ with_date m d
unfolding date_stores
date_applied m d =
    around_applied 54 30 m (with_date m d) (date_length m d)
    (λ j a. date_keeps_byte m d j (⊎_elim (λ x. inr (omega arith)) (λ x. inl (omega arith)) a))

pub date_count : (m : List ℕ) (d : Date) → 12 ≤ length m → length (date_stores m d) ≡ 5
unfolding date_stores
date_count m d l = around_length 54 30 (with_date m d) (omega (arith, date_length m d))

pub date_within : (m : List ℕ) (d : Date) → Within 12 (date_stores m d)
unfolding date_stores
date_within m d = around_within 12 54 30 (with_date m d) (omega arith)
