-- The days one after another (docs/RULES.md, 'Calendar', K3), from Saturday 1 January 2000 on. What is said of them here pins the calendar: the days of each
-- month and worked days are written out, the day after has the next weekday, and the accepted days are 36,525 days in a row, each of them once.
use Rattle.std.specs.Prelude.{true, cond, List, [], ◌∷◌, map, ◌≡◌, ℕ, zero, suc, ◌+◌, ◌*◌, ◌%◌, ◌≤◌, ◌<◌, ltb}
use Rattle.messages.specs.declared.message.Date.{Date}
use Rattle.calendar.specs.Calendar.{days_in, days_before, weekday_of, is_accepted}

-- a time of a day, DS 0
abbrev pub at : (year month day weekday hour minute : ℕ) → Date
at year month day weekday hour minute =
    record { year = year; month = month; day = day; weekday = weekday; hour = hour; minute = minute; daylight = 0 }

-- 00:00
abbrev pub midnight : (year month day weekday : ℕ) → Date
midnight year month day weekday = at year month day weekday 0 0

-- Saturday 1 January 2000
abbrev pub first_day : Date
first_day = midnight 0 1 1 6

-- 00:00 of the day after, for a day that its month has: in the same month, in the next one, in the next year; after 31 December 2099 the first day again
unfoldable pub next_day : Date → Date
next_day d =
    cond (ltb d.day (days_in d.year d.month)) (midnight d.year d.month (suc d.day) ((d.weekday + 1) % 7))
    (cond (ltb d.month 12) (midnight d.year (suc d.month) 1 ((d.weekday + 1) % 7))
    (cond (ltb d.year 99) (midnight (suc d.year) 1 1 ((d.weekday + 1) % 7)) first_day))

-- so many days later
unfoldable pub days_on : ℕ → Date → Date
days_on zero d = d
days_on (suc n) d = next_day (days_on n d)

-- a date whose year, month, day and weekday are those of one of 36,525 days in a row
pub record InDays (d : Date) : Type 0 where
  pub number : ℕ
  pub within : number < 36525
  pub reached : days_on number first_day ≡ midnight d.year d.month d.day d.weekday

-- January to December
abbrev pub months : List ℕ
months = 1 ∷ 2 ∷ 3 ∷ 4 ∷ 5 ∷ 6 ∷ 7 ∷ 8 ∷ 9 ∷ 10 ∷ 11 ∷ 12 ∷ []

pub record DayByDay : Type 0 where
  -- the days of each month, in a year that divides by 4 and in the three after it
  pub leap_year : (k : ℕ) → map (days_in (4 * k)) months ≡ 31 ∷ 29 ∷ 31 ∷ 30 ∷ 31 ∷ 30 ∷ 31 ∷ 31 ∷ 30 ∷ 31 ∷ 30 ∷ 31 ∷ []
  pub other_year : (k r : ℕ) → 1 ≤ r → r ≤ 3 → map (days_in (4 * k + r)) months ≡ 31 ∷ 28 ∷ 31 ∷ 30 ∷ 31 ∷ 30 ∷ 31 ∷ 31 ∷ 30 ∷ 31 ∷ 30 ∷ 31 ∷ []
  -- 1 January 2000 is a Saturday, 29 February 2000 a Tuesday, 28 February 2001 a Wednesday, 31 December 2099 a Thursday
  pub saturday : weekday_of 0 1 1 ≡ 6
  pub tuesday : weekday_of 0 2 29 ≡ 2
  pub wednesday : weekday_of 1 2 28 ≡ 3
  pub thursday : weekday_of 99 12 31 ≡ 4
  -- the day after has the next weekday: in a month, at its end, at the end of a year
  pub next_in_month : (year month day : ℕ) → 1 ≤ day → weekday_of year month (suc day) ≡ (weekday_of year month day + 1) % 7
  pub next_month : (year month : ℕ) → 1 ≤ month → month < 12 → weekday_of year (suc month) 1 ≡ (weekday_of year month (days_in year month) + 1) % 7
  pub next_year : (year : ℕ) → weekday_of (suc year) 1 1 ≡ (weekday_of year 12 31 + 1) % 7
  -- after 28 February 2000 comes the 29th, and then 1 March; after 28 February 2001 comes 1 March; after 31 December comes 1 January, and after that of 2099
  -- the first day
  pub leap_day : next_day (at 0 2 28 1 23 59) ≡ midnight 0 2 29 2
  pub after_leap_day : next_day (at 0 2 29 2 12 30) ≡ midnight 0 3 1 3
  pub no_leap_day : next_day (at 1 2 28 3 0 1) ≡ midnight 1 3 1 4
  pub new_year : next_day (at 0 12 31 0 23 59) ≡ midnight 1 1 1 1
  pub last_day_law : next_day (at 99 12 31 4 23 59) ≡ midnight 0 1 1 6
  -- the accepted dates are the times of these days, HH 0..23, MN 0..59, DS 0, with their weekdays; the day after one of them is one of them
  pub accepted_in_days : (d : Date) → is_accepted d ≡ true → InDays d
  pub accepted_times : (d : Date) → is_accepted d ≡ true → (d.hour ≤ 23) × (d.minute ≤ 59) × (d.daylight ≡ 0)
  pub in_days_accepted : (d : Date) → InDays d → d.hour ≤ 23 → d.minute ≤ 59 → d.daylight ≡ 0 → is_accepted d ≡ true
  pub next_accepted : (d : Date) → is_accepted d ≡ true → is_accepted (next_day d) ≡ true
  -- each day is counted by the days before it, none comes twice, and after the last comes the first
  pub counted : (n : ℕ) → n < 36525 → days_before (days_on n first_day).year (days_on n first_day).month (days_on n first_day).day ≡ n
  pub once : (n k : ℕ) → n < 36525 → k < 36525 → (days_on n first_day).year ≡ (days_on k first_day).year
      → (days_on n first_day).month ≡ (days_on k first_day).month → (days_on n first_day).day ≡ (days_on k first_day).day → n ≡ k
  pub again : days_on 36525 first_day ≡ first_day
