-- The day after a day is counted one higher, in its month, at its month's end and at its year's end: so it has the next weekday, and is accepted.
use mathlib.Core.Bool.{true}
use mathlib.Core.Path.{◌≡◌, refl, sym, ap, ◌∙◌, subst}
use Prim.Native.Nat.{ℕ, suc, ◌+◌, ◌%◌, ◌≤◌, ◌<◌}
use native.Mathlib.Omega.{arith}
use lib.Dec.{ltb}
use borrow.Author.Tests.{ltb-true, ltb-false}
use Rattle.wire.proofs.Tests.{cond-by}
use Rattle.messages.specs.declared.message.Date.{Date}
use Rattle.calendar.specs.Calendar.{days_in, is_day, before_year, before_month, days_before, weekday_of, is_accepted}
use Rattle.calendar.specs.DayByDay.{midnight, first_day, next_day}
use Rattle.calendar.proofs.DayLaws.{month_least, year-days, before_year-as, DayFacts, day-facts, is_day_law, weekday-after}
use Rattle.calendar.proofs.DateLaws.{accepted, is_accepted_lem}

-- ---- the day after, counted

count-in_month : (year month day : ℕ) → 1 ≤ day → days_before year month (suc day) ≡ suc (days_before year month day)
count-in_month year month day h = omega arith

count-month : (year month : ℕ) → 1 ≤ days_in year month → days_before year (suc month) 1 ≡ suc (days_before year month (days_in year month))
unfolding before_month
count-month year month h = omega arith

january : (year : ℕ) → before_month year 1 ≡ 0
unfolding before_month days_in
january year = refl

december_days : (year : ℕ) → days_in year 12 ≡ 31
unfolding days_in
december_days year = refl

december : (year : ℕ) → before_month year 13 ≡ before_month year 12 + 31
unfolding before_month days_in
december year = refl

count-year : (year : ℕ) → days_before (suc year) 1 1 ≡ suc (days_before year 12 31)
unfolding before_year
count-year year = omega (arith, january (suc year), december year, year-days year)

-- ---- weekdays

pub next_in_month : (year month day : ℕ) → 1 ≤ day → weekday_of year month (suc day) ≡ (weekday_of year month day + 1) % 7
unfolding weekday_of
next_in_month year month day h = weekday-after (count-in_month year month day h)

pub next_month : (year month : ℕ) → 1 ≤ month → month < 12 → weekday_of year (suc month) 1 ≡ (weekday_of year month (days_in year month) + 1) % 7
unfolding weekday_of
next_month year month l h = weekday-after (count-month year month (omega (arith, month_least year month l (omega arith))))

pub next_year : (year : ℕ) → weekday_of (suc year) 1 1 ≡ (weekday_of year 12 31 + 1) % 7
unfolding weekday_of
next_year year = weekday-after (count-year year)

-- ---- the day after, in each of four cases

-- a day with its weekday, and the days before it
abbrev pub day_of : (year month day : ℕ) → Date
day_of year month day = midnight year month day (weekday_of year month day)

abbrev pub count_of : Date → ℕ
count_of d = days_before d.year d.month d.day

-- a day that is the day after, or the first again after the last
pub data After (d : Date) : Date → Type 0 where
  counted : (year month day : ℕ) → is_day year month day ≡ true → days_before year month day ≡ suc (count_of d) → After d (day_of year month day)
  again : count_of d ≡ 36524 → After d first_day

last-counted : days_before 99 12 31 ≡ 36524
unfolding before_month days_in
last-counted = omega (arith, before_year-as 99)

module _ (d : Date) (is : is_day d.year d.month d.day ≡ true) (falls : d.weekday ≡ weekday_of d.year d.month d.day) where
  facts : DayFacts d.year d.month d.day
  facts = day-facts d.year d.month d.day is

  -- the weekday that is stepped to is the one that falls on the day after
  stepped : (year month day : ℕ) → is_day year month day ≡ true → days_before year month day ≡ suc (count_of d)
      → After d (midnight year month day ((d.weekday + 1) % 7))
  unfolding weekday_of
  stepped year month day h e =
      subst (λ (w : ℕ). After d (midnight year month day w)) (weekday-after e ∙ ap (λ (w : ℕ). (w + 1) % 7) (sym falls)) (counted year month day h e)

  in_month : d.day < days_in d.year d.month → After d (midnight d.year d.month (suc d.day) ((d.weekday + 1) % 7))
  in_month l =
      stepped d.year d.month (suc d.day) (is_day_law d.year d.month (suc d.day) facts.year_most (omega arith) l)
      (count-in_month d.year d.month d.day facts.day_least)

  module _ (end : days_in d.year d.month ≤ d.day) where
    last_day_law : days_in d.year d.month ≡ d.day
    last_day_law = omega (arith, facts)

    in_year : d.month < 12 → After d (midnight d.year (suc d.month) 1 ((d.weekday + 1) % 7))
    in_year l =
        stepped d.year (suc d.month) 1
        (is_day_law d.year (suc d.month) 1 facts.year_most (omega arith) (omega (arith, month_least d.year (suc d.month) (omega arith) l)))
        (count-month d.year d.month (omega (arith, facts)) ∙ ap (λ (k : ℕ). suc (days_before d.year d.month k)) last_day_law)

    module _ (year-end : 12 ≤ d.month) where
      last-month : 12 ≡ d.month
      last-month = omega (arith, facts)

      last-of_year : 31 ≡ d.day
      last-of_year = sym (december_days d.year) ∙ (ap (days_in d.year) last-month ∙ last_day_law)

      count-last : days_before d.year 12 31 ≡ count_of d
      count-last = rw (← last-month, ← last-of_year)

      in_century : d.year < 99 → After d (midnight (suc d.year) 1 1 ((d.weekday + 1) % 7))
      in_century l =
          stepped (suc d.year) 1 1 (is_day_law (suc d.year) 1 1 l (omega arith) (omega (arith, month_least (suc d.year) 1 (omega arith) (omega arith))))
          (count-year d.year ∙ ap suc count-last)

      at-the_end : 99 ≤ d.year → After d first_day
      at-the_end h =
          let e : 99 ≡ d.year = omega (arith, facts) in
          again (sym count-last ∙ (ap (λ (y : ℕ). days_before y 12 31) (sym e) ∙ last-counted))

  pub after : After d (next_day d)
  unfolding next_day
  after =
      cond-by (After d) (ltb d.day (days_in d.year d.month)) _ _ (λ t. in_month (ltb-true d.day (days_in d.year d.month) t)) λ t.
      let end = ltb-false d.day (days_in d.year d.month) t in
      cond-by (After d) (ltb d.month 12) _ _ (λ t. in_year end (ltb-true d.month 12 t)) λ t.
      let year-end = ltb-false d.month 12 t in
      cond-by (After d) (ltb d.year 99) _ _ (λ t. in_century end year-end (ltb-true d.year 99 t)) λ t.
      at-the_end end year-end (ltb-false d.year 99 t)

-- ---- accepted dates

day-accepted : (year month day : ℕ) → is_day year month day ≡ true → is_accepted (day_of year month day) ≡ true
day-accepted year month day h =
    is_accepted_lem (day_of year month day) (record { is_day_law = h; weekday = refl; hour = omega arith; minute = omega arith; daylight = refl })

pub first_is_day : is_day 0 1 1 ≡ true
unfolding is_day days_in
first_is_day = refl

first_weekday : weekday_of 0 1 1 ≡ 6
unfolding weekday_of before_year before_month days_in
first_weekday = refl

pub first_as : day_of 0 1 1 ≡ first_day
first_as = rw first_weekday

after-accepted : (d x : Date) → After d x → is_accepted x ≡ true
after-accepted d _ (counted year month day h e) = day-accepted year month day h
after-accepted d _ (again e) = subst (λ (x : Date). is_accepted x ≡ true) first_as (day-accepted 0 1 1 first_is_day)

pub next_accepted : (d : Date) → is_accepted d ≡ true → is_accepted (next_day d) ≡ true
next_accepted d e = let a = accepted d e in after-accepted d (next_day d) (after d a.is_day_law a.weekday)
