-- What the code does to some bytes of the store it does to the store: a field of them, the date, a range of them.
use borrow.Author.Rules.{rules}
use borrow.Author.Tests.{le-leb}
use mathlib.Core.Bool.{Bool, true, ◌&&◌, and_assoc}
use mathlib.Core.Path.{◌≡◌, refl, sym, ap, ap₂, ◌∙◌}
use mathlib.Core.List.{List, [], ◌∷◌, ◌++◌}
use Prim.Native.Nat.{ℕ, zero, suc, ◌+◌, ◌-◌, ◌*◌, ◌/◌, ◌%◌, ◌≤◌, ◌<◌}
use native.Mathlib.Nat.{suc-add, zero-add, add_assoc}
use native.Mathlib.Omega.{arith}
use lib.ListN.{length, set, take, drop, length-drop}
use lib.Pow.{pow_mono}
use lib.Seq.{get_or-take, get_or-drop, take-set-lt, drop-set-add, take-take, take-nil, length-take-le, take_at}
use Rattle.bitfield.specs.Field.{with_bit, set_bit, get_field, put_field}
use Rattle.bitfield.proofs.Laws.{get-lt}
use Rattle.messages.specs.declared.message.Date.{Date}
use Rattle.plan.specs.Stores.{Entry, range_of, copied}
use Rattle.store.specs.Fields.{Field, fits, read, all_fit}
use Rattle.store.specs.Layout.{power, setting_fields, date_fields, length_fields, fields_in_range}
use Rattle.store.specs.Inner.{InStore}
use Rattle.store.specs.Contents.{with_date, date_stores}

-- ---- a field of some bytes

take-bit : (n : ℕ) (s : List ℕ) (k b : ℕ) → k < 8 * n → take n (set_bit s k b) ≡ set_bit (take n s) k b
unfolding set_bit
take-bit n s k b h =
    take-set-lt n s (k / 8) _ (omega arith)
    ∙ ap (λ (y : ℕ). set (take n s) (k / 8) (with_bit y (7 - k % 8) b)) (sym (get_or-take n s (k / 8) 0 (omega arith)))

pub take_put : (n : ℕ) (s : List ℕ) (at width v : ℕ) → at + width ≤ 8 * n → take n (put_field s at width v) ≡ put_field (take n s) at width v
unfolding put_field
take_put n s at zero v h = refl
take_put n s at (suc width) v h =
    take-bit n (put_field s at width (v / 2)) (at + width) (v % 2) (omega arith)
    ∙ ap (λ (l : List ℕ). set_bit l (at + width) (v % 2)) (take_put n s at width (v / 2) (omega arith))

drop-bit : (n : ℕ) (s : List ℕ) (k b : ℕ) → drop n (set_bit s (8 * n + k) b) ≡ set_bit (drop n s) k b
unfolding set_bit
drop-bit n s k b =
    let i : (8 * n + k) / 8 ≡ n + k / 8 = omega arith in
    let j : (8 * n + k) % 8 ≡ k % 8 = omega arith in
    rw (i, j, get_or-drop n s (k / 8) 0) (drop-set-add n s (k / 8) _)

pub drop-put : (n : ℕ) (s : List ℕ) (at width v : ℕ) → drop n (put_field s (8 * n + at) width v) ≡ put_field (drop n s) at width v
unfolding put_field
drop-put n s at zero v = refl
drop-put n s at (suc width) v =
    rw (add_assoc (8 * n) at width) (drop-bit n (put_field s (8 * n + at) width (v / 2)) (at + width) (v % 2))
    ∙ ap (λ (l : List ℕ). set_bit l (at + width) (v % 2)) (drop-put n s at width (v / 2))

-- a field stored in the first n bytes
pub put-in_first : (n : ℕ) (s : List ℕ) (at width v : ℕ) {h g : List ℕ} → at + width ≤ 8 * n
    → h ≡ take n s → g ≡ put_field h at width v → g ≡ take n (put_field s at width v)
put-in_first n s at width v l e f = f ∙ rw (e, take_put n s at width v l)

-- a field of at most 8 bits holds a byte
pub get-byte : (s : List ℕ) (at width : ℕ) {r : ℕ} → width ≤ 8 → r ≡ get_field s at width → r < 256
get-byte s at width h e = omega (arith, e, get-lt s at width, pow_mono h)

-- ---- a range of the first bytes

drop-take : (a n : ℕ) (l : List ℕ) → drop a (take (a + n) l) ≡ take n (drop a l)
drop-take zero n l = rw (zero-add n)
drop-take (suc a) n [] = simp take-nil
drop-take (suc a) n (x ∷ l) = rw (suc-add a n) (drop-take a n l)

pub part_of-first : (a e n : ℕ) (l : List ℕ) → a ≤ e → e ≤ n → take (e - a) (drop a (take n l)) ≡ take (e - a) (drop a l)
part_of-first a e n l h k =
    let q : n ≡ a + (n - a) = omega arith in
    ap (λ (m : ℕ). take (e - a) (drop a (take m l))) q
    ∙ ap (λ (x : List ℕ). take (e - a) x) (drop-take a (n - a) l)
    ∙ take-take (e - a) (n - a) (drop a l) (omega arith)

-- bytes of the first n are stored as those of the whole
pub copied-of_first : (a e n : ℕ) (s : List ℕ) {h : List ℕ} → a ≤ e → e ≤ n → h ≡ take n s → copied a e h ≡ copied a e s
copied-of_first a e n s l m p = rw p (ap (range_of a) (part_of-first a e n s l m))

-- a field stored in a copy of the bytes around it is stored as that of the whole
pub around_stored : (s : List ℕ) (at width v : ℕ) (rest : List ℕ) {part u : List ℕ} → InStore at width → length s ≡ 128
    → part ≡ take ((at + width + 7) / 8 - at / 8) (drop (at / 8) s) → u ≡ put_field (part ++ rest) (at % 8) width v
    → take ((at + width + 7) / 8 - at / 8) u ≡ take ((at + width + 7) / 8 - at / 8) (drop (at / 8) (put_field s at width v))
around_stored s at width v rest {part} i l p q =
    let a = at / 8 in
    let n = (at + width + 7) / 8 - at / 8 in
    let few : length part ≡ n = ap length p ∙ length-take-le n (drop a s) (simp length-drop (omega arith)) in
    let place : at ≡ 8 * a + at % 8 = omega arith in
    ap (take n) q
    ∙ take_put n (part ++ rest) (at % 8) width v (omega arith)
    ∙ ap (λ (x : List ℕ). put_field x (at % 8) width v) (take_at part _ n few ∙ p)
    ∙ sym (take_put n (drop a s) (at % 8) width v (omega arith))
    ∙ ap (take n) (sym (drop-put a s (at % 8) width v) ∙ ap (λ (x : ℕ). drop a (put_field s x width v)) (sym place))

-- the date stored in the first 12 bytes is stored as that of the whole
pub date_of-first : (m : List ℕ) (d : Date) → copied 6 11 (with_date (take 12 m) d) ≡ date_stores m d
unfolding date_stores with_date
date_of-first m d = copied-of_first 6 11 12 (with_date m d) {h = with_date (take 12 m) d} (omega arith) (omega arith) (search (take_put, rules))

-- a plan of nothing but what is added to it
pub only : {es fs r : List Entry} → es ≡ [] → r ≡ es ++ fs → r ≡ fs
only p q = q ∙ rw p

-- ---- tests joined by and

pub and_same : {a b c d : Bool} → a ≡ c → b ≡ d → (a && b) ≡ (c && d)
and_same p q = ap₂ ◌&&◌ p q

pub fit_append : (m : List ℕ) (fs gs : List Field) → all_fit m (fs ++ gs) ≡ (all_fit m fs && all_fit m gs)
fit_append m [] gs = refl
fit_append m (f ∷ fs) gs =
    ap (λ (b : Bool). fits f (read m f) && b) (fit_append m fs gs) ∙ sym (and_assoc (fits f (read m f)) (all_fit m fs) (all_fit m gs))

-- any value of one bit is one that power may hold, so the other three groups of fields decide
pub groups_decide : (m : List ℕ) → fields_in_range m ≡ (all_fit m setting_fields && (all_fit m date_fields && all_fit m length_fields))
unfolding fields_in_range
groups_decide m =
    let p : fits power (read m power) ≡ true =
    and_same (le-leb 0 (read m power) (omega arith)) (le-leb (read m power) 1 (omega (arith, get-lt m 53 1))) in
    fit_append m setting_fields (power ∷ (date_fields ++ length_fields)) ∙ rw (p, fit_append m date_fields length_fields)
