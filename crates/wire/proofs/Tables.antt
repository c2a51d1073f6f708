-- What is computed over a table of numbers holds of each of them.
use mathlib.Core.List.{List, [], ◌∷◌, map, head-eq_of_cons-eq, tail-eq_of_cons-eq}
use mathlib.Core.Path.{◌≡◌}
use Prim.Native.Nat.{ℕ, zero, suc, ◌+◌, ◌<◌}
use native.Mathlib.Nat.{not-suc-le-zero}
use native.Mathlib.Omega.{arith}

-- the n numbers from k on
abbrev pub up_from : ℕ → ℕ → List ℕ
up_from k zero = []
up_from k (suc n) = k ∷ up_from (suc k) n

-- functions that give the same list over n numbers agree at each of them
each_from : {A : Type 0} (f g : ℕ → A) (k n : ℕ) → map f (up_from k n) ≡ map g (up_from k n) → (i : ℕ) → i < n → f (k + i) ≡ g (k + i)
each_from f g k zero e i h = absurd (not-suc-le-zero h)
each_from f g k (suc n) e zero h = let p : k + 0 ≡ k = omega arith in rw p (head-eq_of_cons-eq e)
each_from f g k (suc n) e (suc i) h =
    let p : k + suc i ≡ suc k + i = omega arith in
    rw p (each_from f g (suc k) n (tail-eq_of_cons-eq e) i (omega arith))

pub each : {A : Type 0} (f g : ℕ → A) (n : ℕ) → map f (up_from 0 n) ≡ map g (up_from 0 n) → (i : ℕ) → i < n → f i ≡ g i
each f g n e i h = let p : i ≡ 0 + i = omega arith in rw p (each_from f g 0 n e i h)
