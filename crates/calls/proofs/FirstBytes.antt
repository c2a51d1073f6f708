-- A store is cleared byte by byte: the bytes before the next place are an unused board's, and then all of them.
use mathlib.Core.Path.{◌≡◌, refl, ap, sym, ◌∙◌}
use mathlib.Core.Bool.{true, and-eq-true_iff}
use mathlib.Core.List.{List, [], ◌∷◌, ◌++◌}
use Prim.Native.Nat.{ℕ, suc, ◌≤◌, ◌<◌}
use native.Mathlib.Omega.{arith}
use lib.ListN.{length, get_or, set, take, length-set}
use lib.Seq.{take-suc, take-set-le, drop-append-le, get_or-set_same, take-length, length-take-le}
use lib.Dec.{eqb}
use borrow.Author.Tests.{eq-eqb, eqb-true}
use Rattle.std.proofs.Common.{drop, ◌+◌, ◌-◌}
use Rattle.std.specs.Cmp.Lexicographic.{pointwise}
use Rattle.std.proofs.lemmas.List.{drop-take}
use Rattle.calls.specs.Calls.{first_bytes, same}

pub same_refl : (l : List ℕ) → same l l ≡ true
unfolding same
same_refl [] = refl
same_refl (x ∷ xs) = simp (eq-eqb x x refl, same_refl xs)

pub same-eq : (l r : List ℕ) → same l r ≡ true → l ≡ r
unfolding same
same-eq [] [] e = refl
same-eq [] (y ∷ ys) e = cc
same-eq (x ∷ xs) [] e = cc
same-eq (x ∷ xs) (y ∷ ys) e =
    let h : (eqb x y ≡ true) × (same xs ys ≡ true) = (and-eq-true_iff (eqb x y) (same xs ys)).0 e in
    cc (eqb-true x y h.0, same-eq xs ys h.1)

-- what the code's == on slices says
same_is : (l r : List ℕ) → same l r ≡ pointwise eqb l r
unfolding same
same_is [] [] = refl
same_is [] (y ∷ ys) = refl
same_is (x ∷ xs) [] = refl
same_is (x ∷ xs) (y ∷ ys) = rw (same_is xs ys)

-- the slice of bytes 1 to p - 1
first_is : (p : ℕ) (l : List ℕ) → 1 ≤ p → first_bytes p l ≡ take (p - 1) (drop 1 l)
unfolding first_bytes
first_is p l h =
    let e : p ≡ 1 + (p - 1) = omega arith in
    ap (λ (k : ℕ). drop 1 (take k l)) e ∙ drop-take 1 (p - 1) l

pub cleared_is : (p : ℕ) (m u : List ℕ) → 1 ≤ p
    → same (first_bytes p m) (first_bytes p u) ≡ pointwise eqb (take (p - 1) (drop 1 m)) (take (p - 1) (drop 1 u))
cleared_is p m u h = same_is (first_bytes p m) (first_bytes p u) ∙ rw (first_is p m, first_is p u)

first_none : (l : List ℕ) → first_bytes 1 l ≡ []
unfolding first_bytes
first_none [] = refl
first_none (x ∷ xs) = refl

-- before the first place there is nothing to clear
pub clear_first : (m u : List ℕ) → first_bytes 1 m ≡ first_bytes 1 u
clear_first m u = first_none m ∙ sym (first_none u)

first_suc : (l : List ℕ) (p : ℕ) → 1 ≤ p → p < length l → first_bytes (suc p) l ≡ first_bytes p l ++ (get_or l p 0 ∷ [])
unfolding first_bytes
first_suc l p h k =
    let g : 1 ≤ length (take p l) = rw (length-take-le p l (omega arith)) h in
    rw (take-suc l p 0, drop-append-le 1 (take p l))

first_set : (l : List ℕ) (p a : ℕ) → first_bytes p (set l p a) ≡ first_bytes p l
unfolding first_bytes
first_set l p a = let h : p ≤ p = omega arith in rw take-set-le

-- the byte at the next place is cleared
pub clear_next : (m u : List ℕ) (p : ℕ) → 1 ≤ p → p < length m → length m ≡ length u → first_bytes p m ≡ first_bytes p u
    → first_bytes (suc p) (set m p (get_or u p 0)) ≡ first_bytes (suc p) u
clear_next m u p h k size e =
    let a : ℕ = get_or u p 0 in
    let x : p < length u = omega arith in
    let w : p < length (set m p a) = rw length-set k in
    rw (first_suc (set m p a) p, first_suc u p, first_set, get_or-set_same m p a, e)

-- with all but byte 0 cleared, byte 0 is the last
pub clear_last : (m u : List ℕ) → length m ≡ length u → first_bytes (length m) m ≡ first_bytes (length m) u → set m 0 (get_or u 0 0) ≡ u
unfolding first_bytes
clear_last [] [] h e = refl
clear_last [] (y ∷ ys) h e = absurd (omega arith)
clear_last (x ∷ xs) [] h e = absurd (omega arith)
clear_last (x ∷ xs) (y ∷ ys) h e =
    let n : length xs ≡ length ys = omega arith in
    ap (λ (r : List ℕ). y ∷ r) (sym (take-length xs) ∙ e ∙ ap (λ (k : ℕ). take k ys) n ∙ take-length ys)
