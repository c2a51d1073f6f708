-- Every day from the first on is met once: the day after n days is the one with n days before it, and no two days have one number.
use mathlib.Core.Bool.{Bool, true, false, cond}
use mathlib.Core.List.{[], ◌∷◌, map}
use mathlib.Core.Path.{◌≡◌, refl, sym, ap, ◌∙◌}
use Prim.Native.Nat.{ℕ, zero, suc, ◌+◌, ◌*◌, ◌≤◌, ◌<◌}
use native.Mathlib.Omega.{arith, by_contra}
use Rattle.messages.specs.declared.message.Date.{Date}
use Rattle.calendar.specs.Calendar.{is_leap, days_in, is_day, before_year, before_month, days_before, weekday_of, is_accepted}
use Rattle.calendar.specs.DayByDay.{first_day, next_day, days_on, InDays, months, DayByDay}
use Rattle.calendar.proofs.DayLaws.{year-days, before_year-as, before_month-within, day-facts, fourth_year, no_fourth_year}
use Rattle.calendar.proofs.DateLaws.{accepted, is_accepted_lem}
use Rattle.calendar.proofs.NextDay.{next_in_month, next_month, next_year, day_of, count_of, After, counted, again, after, first_is_day, first_as, next_accepted}

-- ---- the months, written out

months-by : (year : ℕ) (leap : Bool) → is_leap year ≡ leap
    → map (days_in year) months ≡ 31 ∷ cond leap 29 28 ∷ 31 ∷ 30 ∷ 31 ∷ 30 ∷ 31 ∷ 31 ∷ 30 ∷ 31 ∷ 30 ∷ 31 ∷ []
unfolding days_in
months-by year leap e = rw e

-- ---- every day once

-- the day that so many days lie before
record Met (n : ℕ) (x : Date) : Type 0 where
  year : ℕ
  month : ℕ
  day : ℕ
  there : is_day year month day ≡ true
  number : days_before year month day ≡ n
  same : x ≡ day_of year month day

first_met : Met 0 first_day
unfolding before_year before_month days_in
first_met = record { year = 0; month = 1; day = 1; there = first_is_day; number = refl; same = sym first_as }

after-met : (n : ℕ) (d x : Date) → count_of d ≡ n → suc n < 36525 → After d x → Met (suc n) x
after-met n d _ c h (counted year month day is e) =
    record { year = year; month = month; day = day; there = is; number = e ∙ ap suc c; same = refl }
after-met n d _ c h (again e) = absurd (omega arith)

met_first : Met 0 (days_on 0 first_day)
unfolding days_on
met_first = first_met

met_next : (n : ℕ) → suc n < 36525 → Met n (days_on n first_day) → Met (suc n) (days_on (suc n) first_day)
unfolding days_on
met_next n h m =
    let d = day_of m.year m.month m.day in
    rw m.same (after-met n d (next_day d) m.number h (after d m.there refl))

met : (n : ℕ) → n < 36525 → Met n (days_on n first_day)
met zero h = met_first
met (suc n) h = met_next n h (met n (omega arith))

-- ---- no two days have one number

year-next : (year : ℕ) → before_year (suc year) ≡ before_year year + before_month year 13
unfolding before_year
year-next year = rw year-days

year-within : (year last : ℕ) → year ≤ last → before_year year ≤ before_year last
year-within year last h = omega (arith, before_year-as year, before_year-as last)

-- a day lies in its month and in its year
record Lies (year month day : ℕ) : Type 0 where
  in_month : before_month year month + day ≤ before_month year (suc month)
  in_year : before_month year (suc month) ≤ before_month year 13
  least : 1 ≤ day

lies : (year month day : ℕ) → is_day year month day ≡ true → Lies year month day
unfolding before_month
lies year month day h =
    let f = day-facts year month day h in
    record { in_month = omega (arith, f); in_year = before_month-within year (suc month) 13 (omega (arith, f)); least = f.day_least }

module _ (year month day year' month' day' : ℕ) (a : Lies year month day) (b : Lies year' month' day')
    (e : days_before year month day ≡ days_before year' month' day') where
  year-not_later : year ≤ year'
  year-not_later = by_contra year year' (λ l. omega (arith, a, b, year-next year', year-within (suc year') year l))

  month-not_later : year ≡ year' → month ≤ month'
  month-not_later q =
      by_contra month month' (λ l. omega (arith, a, b, ap before_year q, ap (λ (y : ℕ). before_month y month) q, before_month-within year' (suc month') month l))

record SameDay (year month day year' month' day' : ℕ) : Type 0 where
  years : year ≡ year'
  months : month ≡ month'
  days : day ≡ day'

same-day : (year month day year' month' day' : ℕ) → Lies year month day → Lies year' month' day'
    → days_before year month day ≡ days_before year' month' day' → SameDay year month day year' month' day'
same-day y m d y' m' d' a b e =
    let q : y ≡ y' = omega (arith, year-not_later y m d y' m' d' a b e, year-not_later y' m' d' y m d b a (sym e)) in
    let r : m ≡ m' = omega (arith, month-not_later y m d y' m' d' a b e q, month-not_later y' m' d' y m d b a (sym e) (sym q)) in
    let before : before_month y m ≡ before_month y' m' = rw (q, r) in
    record { years = q; months = r; days = omega (arith, ap before_year q, a.least, b.least) }

number-most : (year month day : ℕ) → is_day year month day ≡ true → days_before year month day < 36525
number-most year month day h =
    omega (arith, lies year month day h, day-facts year month day h, year-next year, before_year-as (suc year))

accepted_in_days : (d : Date) → is_accepted d ≡ true → InDays d
accepted_in_days d e =
    let a = accepted d e in
    let h = number-most d.year d.month d.day a.is_day_law in
    let m = met (count_of d) h in
    let s = same-day _ _ _ _ _ _ (lies m.year m.month m.day m.there) (lies d.year d.month d.day a.is_day_law) m.number in
    record { number = count_of d; within = h; reached = m.same ∙ rw (s.years, s.months, s.days, ← a.weekday) }

in_days_accepted : (d : Date) → InDays d → d.hour ≤ 23 → d.minute ≤ 59 → d.daylight ≡ 0 → is_accepted d ≡ true
in_days_accepted d i hour minute daylight =
    let m = met i.number i.within in
    let q = sym m.same ∙ i.reached in
    let y : m.year ≡ d.year = ap (λ (x : Date). x.year) q in
    let n : m.month ≡ d.month = ap (λ (x : Date). x.month) q in
    let t : m.day ≡ d.day = ap (λ (x : Date). x.day) q in
    is_accepted_lem d (record {
      is_day_law = rw (← y, ← n, ← t) m.there;
      weekday = sym (ap (λ (x : Date). x.weekday) q) ∙ rw (y, n, t);
      hour = hour;
      minute = minute;
      daylight = daylight;
    })

met_number : (n : ℕ) (x : Date) → Met n x → count_of x ≡ n
met_number n x m = ap count_of m.same ∙ m.number

once : (n k : ℕ) → n < 36525 → k < 36525 → (days_on n first_day).year ≡ (days_on k first_day).year
    → (days_on n first_day).month ≡ (days_on k first_day).month → (days_on n first_day).day ≡ (days_on k first_day).day → n ≡ k
once n k h l y m d =
    sym (met_number n (days_on n first_day) (met n h)) ∙ rw (y, m, d) (met_number k (days_on k first_day) (met k l))

after_last : (d x : Date) → count_of d ≡ 36524 → After d x → x ≡ first_day
after_last d _ c (counted year month day is e) = absurd (omega (arith, number-most year month day is))
after_last d _ c (again e) = refl

next_last : (n : ℕ) → n ≡ 36524 → Met n (days_on n first_day) → days_on (suc n) first_day ≡ first_day
unfolding days_on
next_last n h m =
    let d = day_of m.year m.month m.day in
    rw m.same (after_last d (next_day d) (m.number ∙ h) (after d m.there refl))

pub day-by_day : DayByDay
unfolding weekday_of before_year before_month days_in next_day
day-by_day =
    record {
      leap_year = λ k. months-by (4 * k) true (fourth_year k);
      other_year = λ k r l h. months-by (4 * k + r) false (no_fourth_year k r l h);
      saturday = refl;
      tuesday = refl;
      wednesday = refl;
      thursday = refl;
      next_in_month = next_in_month;
      next_month = next_month;
      next_year = next_year;
      leap_day = refl;
      after_leap_day = refl;
      no_leap_day = refl;
      new_year = refl;
      last_day_law = refl;
      accepted_in_days = accepted_in_days;
      accepted_times = λ d e. let a = accepted d e in (a.hour, a.minute, a.daylight);
      in_days_accepted = in_days_accepted;
      next_accepted = next_accepted;
      counted = λ n h. met_number n (days_on n first_day) (met n h);
      once = once;
      again = next_last 36524 refl (met 36524 (omega arith));
    }
