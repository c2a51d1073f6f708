-- A log of less than two numbers is full, and two taken off both sides of a comparison leave it as it is.
use mathlib.Core.Bool.{Bool, true, false}
use mathlib.Core.Path.{◌≡◌, refl, sym}
use Prim.Native.Nat.{ℕ, ◌+◌, ◌-◌, ◌≤◌, ◌<◌}
use native.Mathlib.Omega.{arith}
use borrow.Author.Tests.{ltb-true, ltb-false, lt-ltb, le-ltb}
use lib.Dec.{ltb}
use Rattle.play.proofs.is_full.Goals as goal

under_two : (log store : ℕ) → log < 2 → true ≡ ltb log (store + 2)
under_two log store h = sym (lt-ltb log (store + 2) (omega arith))

less_two : (log store : ℕ) → 2 ≤ log → (t : Bool) → ltb (log - 2) store ≡ t → t ≡ ltb log (store + 2)
less_two log store h true e = sym (lt-ltb log (store + 2) (omega (arith, ltb-true)))
less_two log store h false e = sym (le-ltb log (store + 2) (omega (arith, ltb-false)))

pub returns-then-log-lt2 : goal.returns-then-log-lt2
returns-then-log-lt2 c = search under_two

pub returns : goal.returns
returns c = less_two _ _ c.if-log-lt2.false _ refl
