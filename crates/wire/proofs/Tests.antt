-- Laws of tests. `search tests`, under `unfolding` of a definition, closes a `return` that tests on the way lead to.
use mathlib.Core.Bool.{Bool, true, false, cond, ◌&&◌, and-eq-true_iff}
use mathlib.Core.Path.{◌≡◌, refl}
use Prim.Native.Nat.{ℕ, ◌≤◌}
use borrow.Author.Tests.{lt-ltb, le-ltb, le-leb, lt-leb, eq-eqb, ne_eqb, leb-true}
use lib.Dec.{leb}

pub ruleset tests = (eq-eqb, ne_eqb, lt-ltb, le-ltb, le-leb, lt-leb)

-- what holds of both choices, each where the test chooses it, holds of the choice
pub cond-by {ℓ} : {A : Type ℓ} (P : A → Type 0) (t : Bool) (x y : A) → (t ≡ true → P x) → (t ≡ false → P y) → P (cond t x y)
cond-by P true x y p q = p refl
cond-by P false x y p q = q refl

pub both : (a b : Bool) → (a && b) ≡ true → (a ≡ true) × (b ≡ true)
both a b = (and-eq-true_iff a b).0

-- a test beside another that fails
pub and-false : (t : Bool) → (t && false) ≡ false
and-false true = refl
and-false false = refl

pub range-told : (least n most : ℕ) → (leb least n && leb n most) ≡ true → (least ≤ n) × (n ≤ most)
range-told least n most e =
    let b = both (leb least n) (leb n most) e in
    (leb-true least n b.0, leb-true n most b.1)
