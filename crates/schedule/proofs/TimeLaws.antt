-- A time in the words of document 02, which the demands write out: hours to 24 and minutes to 60, where 24 and 60 come together.
use mathlib.Core.Bool.{Bool, true, false, cond, not, ◌&&◌}
use mathlib.Core.Logic.{⊎_elim}
use mathlib.Core.Path.{◌≡◌, refl, sym}
use Prim.Native.Nat.{ℕ}
use native.Mathlib.Nat.{eq-or-lt_of_le}
use native.Mathlib.Omega.{arith}
use borrow.Author.Tests.{le-leb, lt-leb, ne_eqb, ltb-true, ltb-false, eqb-true, eqb-false}
use lib.Dec.{ltb, leb, eqb}
use Rattle.schedule.specs.Programs.{is_time}

-- a number below another, at it or above it, by every test
data Side (n k : ℕ) : Type 0 where
  below : ltb n k ≡ true → leb n k ≡ true → eqb n k ≡ false → Side n k
  at : ltb n k ≡ false → leb n k ≡ true → eqb n k ≡ true → Side n k
  above : ltb n k ≡ false → leb n k ≡ false → eqb n k ≡ false → Side n k

side : (n k : ℕ) → Side n k
side n k = by (ltb n k) (eqb n k) refl refl
  where
    by : (lt eq : Bool) → ltb n k ≡ lt → eqb n k ≡ eq → Side n k
    by true eq l e = let h = ltb-true n k l in below l (le-leb n k (omega arith)) (ne_eqb n k λ q. omega arith)
    by false true l e = let q = eqb-true n k e in at l (le-leb n k (omega arith)) e
    by false false l e =
        ⊎_elim (λ q. absurd (eqb-false n k e (sym q))) (λ h. above l (lt-leb n k h) e) (eq-or-lt_of_le (ltb-false n k l))

pub time_as : (hour minute : ℕ) → is_time hour minute ≡ (leb hour 24 && leb minute 60 && cond (eqb hour 24) (eqb minute 60) (not (eqb minute 60)))
time_as hour minute = by (side hour 24) (side minute 60)
  where
    by : Side hour 24 → Side minute 60 → is_time hour minute ≡ (leb hour 24 && leb minute 60 && cond (eqb hour 24) (eqb minute 60) (not (eqb minute 60)))
    by (above a b c) m = simp (a, b, c)
    by (below a b c) (below d e f) = simp (a, b, c, d, e, f)
    by (below a b c) (at d e f) = simp (a, b, c, d, e, f)
    by (below a b c) (above d e f) = simp (a, b, c, d, e, f)
    by (at a b c) (below d e f) = simp (a, b, c, d, e, f)
    by (at a b c) (at d e f) = simp (a, b, c, d, e, f)
    by (at a b c) (above d e f) = simp (a, b, c, d, e, f)
