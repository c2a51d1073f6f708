-- How many days months and years have, and how many lie before them.
use mathlib.Core.Bool.{Bool, true, false, cond, ◌&&◌, ◌||◌, and-false, and_assoc}
use mathlib.Core.List.{◌∷◌}
use mathlib.Core.Path.{◌≡◌, refl, sym, ◌∙◌}
use mathlib.Core.Logic.{⊎_elim}
use native.Mathlib.Nat.{eq-or-lt_of_le}
use Prim.Native.Nat.{ℕ, zero, suc, ◌+◌, ◌*◌, ◌/◌, ◌%◌, ◌≤◌, ◌<◌}
use native.Mathlib.Omega.{arith, by_contra}
use lib.Dec.{leb, eqb}
use lib.ListN.{get_or-eq_default}
use borrow.Author.Tests.{eq-eqb, eqb-true, eqb-false, leb-true, leb-false, ne_eqb, le-leb}
use Rattle.wire.proofs.Tests.{cond-by, both}
use Rattle.wire.proofs.Tables.{each}
use Rattle.calendar.specs.Calendar.{is_leap, days_of_months, days_in, is_day, before_year, before_month, days_before, weekday_of}

-- ---- months

-- the list of the months, as tests
abbrev by_tests : (year month : ℕ) → ℕ
by_tests year month =
    cond (eqb month 2) (cond (is_leap year) 29 28)
    (cond (eqb month 4 || eqb month 6 || eqb month 9 || eqb month 11) 30 (cond (leb 1 month && leb month 12) 31 0))

no_month : (year month : ℕ) → 12 < month → days_in year month ≡ 0
unfolding days_in
no_month year month h = get_or-eq_default (0 ∷ days_of_months year) 0 h

months-as : (year month : ℕ) → month ≤ 12 → days_in year month ≡ by_tests year month
unfolding days_in
months-as year month h = each (days_in year) (by_tests year) 13 refl month (omega arith)

pub days_as : (year month : ℕ) → days_in year month ≡ by_tests year month
days_as year month = go (leb month 12) refl
  where
    go : (known : Bool) → leb month 12 ≡ known → days_in year month ≡ by_tests year month
    go true e = months-as year month (leb-true month 12 e)
    go false e =
        let h = leb-false month 12 e in
        no_month year month h
        ∙ sym (rw (
          ne_eqb month 2 (λ e. omega arith),
          ne_eqb month 4 (λ e. omega arith),
          ne_eqb month 6 (λ e. omega arith),
          ne_eqb month 9 (λ e. omega arith),
          ne_eqb month 11 (λ e. omega arith),
          e,
          and-false,
        ))

pub month-most : (year month : ℕ) → days_in year month ≤ 31
month-most year month =
    rw (days_as year month)
    (cond-by (λ (n : ℕ). n ≤ 31) (eqb month 2) _ _ (λ _. cond-by (λ (n : ℕ). n ≤ 31) (is_leap year) 29 28 (λ _. omega arith) (λ _. omega arith))
    (λ _. cond-by (λ (n : ℕ). n ≤ 31) (eqb month 4 || eqb month 6 || eqb month 9 || eqb month 11) _ _ (λ _. omega arith)
    (λ _. cond-by (λ (n : ℕ). n ≤ 31) (leb 1 month && leb month 12) 31 0 (λ _. omega arith) (λ _. omega arith))))

pub month_least : (year month : ℕ) → 1 ≤ month → month ≤ 12 → 28 ≤ days_in year month
month_least year month l h =
    rw (days_as year month)
    (cond-by (λ (n : ℕ). 28 ≤ n) (eqb month 2) _ _ (λ _. cond-by (λ (n : ℕ). 28 ≤ n) (is_leap year) 29 28 (λ _. omega arith) (λ _. omega arith))
    (λ _. cond-by (λ (n : ℕ). 28 ≤ n) (eqb month 4 || eqb month 6 || eqb month 9 || eqb month 11) _ _ (λ _. omega arith)
    (λ _. rw (le-leb 1 month l, le-leb month 12 h) (omega arith))))

pub before_month-most : (year month : ℕ) → before_month year month ≤ 31 * month
unfolding before_month
before_month-most year zero = omega arith
before_month-most year (suc month) = omega (arith, before_month-most year month, month-most year month)

pub before_month-within : (year month last : ℕ) → month ≤ last → before_month year month ≤ before_month year last
unfolding before_month
before_month-within year month zero h = let e : month ≡ 0 = omega arith in rw e (omega arith)
before_month-within year month (suc last) h =
    ⊎_elim (λ e. rw e (omega arith)) (λ l. omega (arith, before_month-within year month last (omega arith))) (eq-or-lt_of_le h)

-- ---- years

-- the twelve months of a year
pub year-days : (year : ℕ) → before_month year 13 ≡ cond (is_leap year) 366 365
unfolding before_month days_in
year-days year = go (is_leap year) refl
  where
    go : (leap : Bool) → is_leap year ≡ leap → before_month year 13 ≡ cond (is_leap year) 366 365
    go true e = rw e
    go false e = rw e

-- one year in four has a day more
pub before_year-as : (year : ℕ) → before_year year ≡ 365 * year + (year + 3) / 4
unfolding before_year
before_year-as zero = refl
before_year-as (suc year) =
    cond-by (λ (n : ℕ). before_year year + n ≡ 365 * suc year + (suc year + 3) / 4) (is_leap year) 366 365
    (λ e. omega (arith, before_year-as year, eqb-true (year % 4) 0 e))
    (λ e. let n : year % 4 ≡ 0 → ⊥ = eqb-false (year % 4) 0 e in omega (arith, before_year-as year))

-- ---- days

pub record DayFacts (year month day : ℕ) : Type 0 where
  pub year_most : year ≤ 99
  pub day_least : 1 ≤ day
  pub day_most : day ≤ days_in year month
  pub month_least : 1 ≤ month
  pub month_last : month ≤ 12

day-in_month : (year month : ℕ) → 1 ≤ days_in year month → (1 ≤ month) × (month ≤ 12)
unfolding days_in
day-in_month year zero h = absurd (omega arith)
day-in_month year (suc month) h = (omega arith, by_contra (suc month) 12 (λ x. omega (arith, no_month year (suc month) x)))

pub day-facts : (year month day : ℕ) → is_day year month day ≡ true → DayFacts year month day
unfolding is_day
day-facts year month day e =
    let a = both (leb year 99 && leb 1 day) (leb day (days_in year month)) e in
    let b = both (leb year 99) (leb 1 day) a.0 in
    let least = leb-true 1 day b.1 in
    let most = leb-true day (days_in year month) a.1 in
    let m = day-in_month year month (omega arith) in
    record { year_most = leb-true year 99 b.0; day_least = least; day_most = most; month_least = m.0; month_last = m.1 }

pub is_day_law : (year month day : ℕ) → year ≤ 99 → 1 ≤ day → day ≤ days_in year month → is_day year month day ≡ true
unfolding is_day
is_day_law year month day y l m = rw (le-leb year 99 y, le-leb 1 day l, le-leb day (days_in year month) m)

-- the range of the month, written out
pub day-as : (year month day : ℕ)
    → (leb year 99 && (leb 1 month && leb month 12) && (leb 1 day && leb day (days_in year month))) ≡ is_day year month day
unfolding is_day
day-as year month day = go (leb 1 day && leb day (days_in year month)) refl
  where
    go : (there : Bool) → (leb 1 day && leb day (days_in year month)) ≡ there
        → (leb year 99 && (leb 1 month && leb month 12) && (leb 1 day && leb day (days_in year month))) ≡ (leb year 99 && leb 1 day && leb day (days_in year month))
    go true e =
        let b = both (leb 1 day) (leb day (days_in year month)) e in
        let m = day-in_month year month (omega (arith, leb-true 1 day b.0, leb-true day (days_in year month) b.1)) in
        rw (le-leb 1 month m.0, le-leb month 12 m.1, b.0, b.1)
    go false e = rw (and_assoc (leb year 99) (leb 1 day) (leb day (days_in year month)), e, and-false (leb year 99 && (leb 1 month && leb month 12)), and-false)

pub weekday-most : (year month day : ℕ) → weekday_of year month day ≤ 6
unfolding weekday_of
weekday-most year month day = omega arith

-- so few that a 16-bit number holds them
pub days_few : (year month day : ℕ) → is_day year month day ≡ true → 6 + days_before year month day < 65536
days_few year month day e =
    let f = day-facts year month day e in
    omega (arith, before_year-as year, before_month-most year month, month-most year month)

-- ---- weekdays and leap years

-- the weekday a day later
pub weekday-after : {n k : ℕ} → k ≡ suc n → (6 + k) % 7 ≡ ((6 + n) % 7 + 1) % 7
weekday-after {n} {k} e = rw e (omega arith)

-- the test of a leap year, in the years that are multiples of 4 and in the three behind each
pub fourth_year : (k : ℕ) → eqb (4 * k % 4) 0 ≡ true
fourth_year k = eq-eqb (4 * k % 4) 0 (omega arith)

pub no_fourth_year : (k r : ℕ) → 1 ≤ r → r ≤ 3 → eqb ((4 * k + r) % 4) 0 ≡ false
no_fourth_year k r l h = ne_eqb ((4 * k + r) % 4) 0 (λ e. omega arith)
