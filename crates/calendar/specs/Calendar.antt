-- The calendar (docs/RULES.md, 'Calendar', K1): the days from 1 January 2000 to 31 December 2099, their weekdays, and the dates that a date write
-- accepts. Years are counted from 2000, and Sunday is 0.
use Rattle.std.specs.Prelude.{Bool, cond, ◌&&◌, List, [], ◌∷◌, ℕ, zero, suc, ◌+◌, ◌-◌, ◌%◌, leb, eqb, get_or}
use Rattle.messages.specs.declared.message.Date.{Date}

-- ---- days

-- a year with a 29 February: one that divides by 4
abbrev pub is_leap : ℕ → Bool
is_leap year = eqb (year % 4) 0

-- the days of each month, January first
abbrev pub days_of_months : ℕ → List ℕ
days_of_months year = 31 ∷ cond (is_leap year) 29 28 ∷ 31 ∷ 30 ∷ 31 ∷ 30 ∷ 31 ∷ 31 ∷ 30 ∷ 31 ∷ 30 ∷ 31 ∷ []

-- how many days a month has; a number that is no month's has none
unfoldable pub days_in : (year month : ℕ) → ℕ
days_in year month = get_or (0 ∷ days_of_months year) month 0

-- a day of 2000 to 2099: one that its month has
unfoldable pub is_day : (year month day : ℕ) → Bool
is_day year month day = leb year 99 && leb 1 day && leb day (days_in year month)

-- ---- weekdays

-- how many days there are before a year, from 1 January 2000 on
unfoldable pub before_year : ℕ → ℕ
before_year zero = 0
before_year (suc year) = before_year year + cond (is_leap year) 366 365

-- how many days of its year there are before a month
unfoldable pub before_month : (year month : ℕ) → ℕ
before_month year zero = 0
before_month year (suc month) = before_month year month + days_in year month

-- how many days there are before a day
abbrev pub days_before : (year month day : ℕ) → ℕ
days_before year month day = before_year year + before_month year month + (day - 1)

-- the weekday that falls on a day: 1 January 2000 was a Saturday, 6
unfoldable pub weekday_of : (year month day : ℕ) → ℕ
weekday_of year month day = (6 + days_before year month day) % 7

-- ---- dates

-- the dates that a date write accepts: a day that its month has, the weekday that falls on it, HH 0..23, MN 0..59, DS 0
unfoldable pub is_accepted : Date → Bool
is_accepted d =
    is_day d.year d.month d.day && eqb d.weekday (weekday_of d.year d.month d.day)
    && leb d.hour 23 && leb d.minute 59 && eqb d.daylight 0
