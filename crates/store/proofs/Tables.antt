-- Tests over a whole list, computed once: what they say of each element, and of each two.
use mathlib.Core.Path.{◌≡◌, refl, sym, ap, ◌∙◌}
use mathlib.Core.Bool.{Bool, true, false, ◌&&◌, ◌||◌}
use mathlib.Core.Logic.{◌⊎◌, inl, inr, ⊎_elim}
use mathlib.Core.List.Memᴰ
use mathlib.Core.List.{List, [], ◌∷◌, Memᴰ}
use Prim.Native.Nat.{ℕ, zero, suc, ◌<◌}
use native.Mathlib.Nat.{not-suc-le-zero}
use native.Mathlib.Omega.{arith}
use lib.ListN.{length, get_or}
use Rattle.wire.proofs.Tests.{both}

pub either : (a b : Bool) → (a || b) ≡ true → (a ≡ true) ⊎ (b ≡ true)
either true b e = inl refl
either false b e = inr e

module _ {A : Type 0} where
  -- each element passes a test
  abbrev pub each : (A → Bool) → List A → Bool
  each p [] = true
  each p (x ∷ xs) = p x && each p xs

  -- each two of them pass a test, the one that stands first being first
  abbrev pub pairwise : (A → A → Bool) → List A → Bool
  pairwise p [] = true
  pairwise p (x ∷ xs) = each (p x) xs && pairwise p xs

  -- what stands at a place is an element
  pub member_at : (xs : List A) (i : ℕ) (d : A) → i < length xs → Memᴰ (get_or xs i d) xs
  member_at [] i d h = absurd (not-suc-le-zero h)
  member_at (x ∷ xs) zero d h = Memᴰ.head refl
  member_at (x ∷ xs) (suc i) d h = Memᴰ.tail (member_at xs i d (omega arith))

  pub each_member : (p : A → Bool) (xs : List A) (x : A) → each p xs ≡ true → Memᴰ x xs → p x ≡ true
  each_member p [] x e m = absurd (Memᴰ.not-nil m)
  each_member p (y ∷ ys) x e m =
      let b = both (p y) (each p ys) e in
      ⊎_elim (λ q. ap p q ∙ b.0) (λ n. each_member p ys x b.1 n) (Memᴰ.cases_cons m)

  pub two-members : (p : A → A → Bool) (xs : List A) (x y : A) → pairwise p xs ≡ true → Memᴰ x xs → Memᴰ y xs
      → (x ≡ y) ⊎ ((p x y ≡ true) ⊎ (p y x ≡ true))
  two-members p [] x y e m n = absurd (Memᴰ.not-nil m)
  two-members p (z ∷ zs) x y e m n = go (Memᴰ.cases_cons m) (Memᴰ.cases_cons n) (λ m n. two-members p zs x y b.1 m n)
    where
      b : (each (p z) zs ≡ true) × (pairwise p zs ≡ true)
      b = both (each (p z) zs) (pairwise p zs) e

      go : (x ≡ z) ⊎ Memᴰ x zs → (y ≡ z) ⊎ Memᴰ y zs
          → (Memᴰ x zs → Memᴰ y zs → (x ≡ y) ⊎ ((p x y ≡ true) ⊎ (p y x ≡ true))) → (x ≡ y) ⊎ ((p x y ≡ true) ⊎ (p y x ≡ true))
      go (inl q) (inl r) f = inl (q ∙ sym r)
      go (inl q) (inr n) f = inr (inl (ap (λ (z : A). p z y) q ∙ each_member (p z) zs y b.0 n))
      go (inr m) (inl r) f = inr (inr (ap (λ (z : A). p z x) r ∙ each_member (p z) zs x b.0 m))
      go (inr m) (inr n) f = f m n
