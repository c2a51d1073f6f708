-- Settings and power: an accepted value's kept form fits its field, so a Set moves what is shown to it.
use mathlib.Core.Path.{◌≡◌, refl, sym, ap, ◌∙◌}
use mathlib.Core.Bool.{Bool, true, false, not, cond, ◌||◌, false≢true}
use mathlib.Core.Logic.{◌⊎◌, inl, inr, ⊎_elim}
use mathlib.Core.List.Memᴰ
use mathlib.Core.List.{List, [], ◌∷◌, Memᴰ}
use mathlib.Core.Option.{Option, some, none-ne-some}
use Prim.Native.Nat.{ℕ, zero, suc, ◌+◌, ◌*◌, ◌^◌, ◌≤◌, ◌<◌}
use native.Mathlib.Omega.{arith}
use lib.Dec.{leb, eqb}
use lib.ListN.{length}
use borrow.Author.Tests.{leb-true, le-leb, eqb-true, eq-eqb, not-true}
use Rattle.bitfield.specs.Field.{Apart}
use Rattle.wire.proofs.Tests.{cond-by, both}
use Rattle.store.specs.Fields.{write, fits, fits_in}
use Rattle.store.specs.Layout.{power}
use Rattle.store.specs.declared.settings.Values.{Values}
use Rattle.store.specs.declared.settings.Row.{Row}
use Rattle.store.specs.Settings.{
  settings,
  Listed,
  is_at,
  row_in,
  setting_at,
  input_accepts,
  input_kept,
  input_shown,
  accepts,
  kept,
  shown,
  least_kept,
  most_kept,
  field_of,
  current,
}
use Rattle.store.specs.Contents.{is_on}
use Rattle.store.specs.Inner.{InStore}
use Rattle.store.proofs.Tables.{each, pairwise, each_member, two-members}
use Rattle.store.proofs.StoreLaws.{is_field, field-in_store, is_apart, either_apart, fits_below, read-write}

-- ---- the rows

-- what each row passes, a listed one passes
pub each_setting : (p : Row → Bool) (r : Row) → each p settings ≡ true → Listed r → p r ≡ true
each_setting p r e m = each_member p settings r e m

pub setting-field : (r : Row) → Listed r → is_field (field_of r) ≡ true
setting-field r m = each_setting (λ r. is_field (field_of r)) r refl m

pub row_in-store : (r : Row) → Listed r → InStore r.at r.width
row_in-store r m = field-in_store (field_of r) (setting-field r m)

-- the rows have their fields apart
pub same-or_apart_row : (r t : Row) → Listed r → Listed t → (r ≡ t) ⊎ Apart r.at r.width t.at t.width
same-or_apart_row r t m n =
    ⊎_elim inl
    (λ a. inr (either_apart r.at r.width t.at t.width a))
    (two-members (λ r t. is_apart r.at r.width t.at t.width) settings r t refl m n)

-- the second of two rows has not the page and the code of the first
abbrev is_other : Row → Row → Bool
is_other r t = not (is_at t.page t.code r)

own_pair : (rs : List Row) (r : Row) → pairwise is_other rs ≡ true → Memᴰ r rs → row_in r.page r.code rs ≡ some r
own_pair [] r e m = absurd (Memᴰ.not-nil m)
own_pair (t ∷ ts) r e m =
    let b = both (each (is_other t) ts) (pairwise is_other ts) e in
    ⊎_elim (λ q. rw (← q, eq-eqb r.page r.page refl, eq-eqb r.code r.code refl))
    (λ n. rw (not-true (is_at r.page r.code t) (each_member (is_other t) ts r b.0 n)) (own_pair ts r b.1 n)) (Memᴰ.cases_cons m)

-- each setting's page and code are its own
pub setting-found : (r : Row) → Listed r → setting_at r.page r.code ≡ some r
unfolding setting_at
setting-found r m = own_pair settings r refl m

-- what is found in some rows is one of them, and has the page and the code
row_told : (page code : ℕ) (rs : List Row) (r : Row) → row_in page code rs ≡ some r → Memᴰ r rs × (is_at page code r ≡ true)
row_told page code [] r = λ e. absurd (none-ne-some r e)
row_told page code (t ∷ ts) r =
    cond-by (λ (o : Option Row). o ≡ some r → Memᴰ r (t ∷ ts) × (is_at page code r ≡ true)) (is_at page code t) (some t) (row_in page code ts)
    (λ h e. let q : t ≡ r = cc in (Memᴰ.head (sym q), rw (← q) h))
    (λ _ e. let w = row_told page code ts r e in (Memᴰ.tail w.0, w.1))

pub setting-listed : (page code : ℕ) (r : Row) → setting_at page code ≡ some r → Listed r
unfolding setting_at
setting-listed page code r e = (row_told page code settings r e).0

pub setting-told : (page code : ℕ) (r : Row) → setting_at page code ≡ some r → (page ≡ r.page) × (code ≡ r.code)
unfolding setting_at
setting-told page code r e =
    let p = both (eqb page r.page) (eqb code r.code) (row_told page code settings r e).1 in
    (eqb-true page r.page p.0, eqb-true code r.code p.1)

-- ---- what is kept of an accepted value

-- one of the four values of an accepted input
input-by : (P : ℕ → Type 0) (v : ℕ) → input_accepts v ≡ true → P 1 → P 3 → P 4 → P 17 → P v
input-by P v h a b c d = go (eqb v 1) (eqb v 3) (eqb v 4) (eqb v 17) refl refl refl refl h
  where
    go : (x y z w : Bool) → eqb v 1 ≡ x → eqb v 3 ≡ y → eqb v 4 ≡ z → eqb v 17 ≡ w → (x || (y || (z || w))) ≡ true → P v
    go true y z w e f g i k = rw (eqb-true v 1 e) a
    go false true z w e f g i k = rw (eqb-true v 3 f) b
    go false false true w e f g i k = rw (eqb-true v 4 g) c
    go false false false true e f g i k = rw (eqb-true v 17 i) d
    go false false false false e f g i k = absurd (false≢true k)

-- it is a value that the field may hold
values-fit : (s : Values) (v : ℕ) → accepts s v ≡ true → fits_in (least_kept s) (most_kept s) (kept s v) ≡ true
values-fit (Values.Range least most) v h = h
values-fit Values.Inputs v h = input-by (λ v. fits_in 0 2 (input_kept v) ≡ true) v h refl refl refl refl

pub kept-fits : (r : Row) (v : ℕ) → accepts r.values v ≡ true → fits (field_of r) (kept r.values v) ≡ true
kept-fits r v h = values-fit r.values v h

pub kept-below : (r : Row) (v : ℕ) {k : ℕ} → k ≡ kept r.values v → Listed r → accepts r.values v ≡ true → k < 2 ^ r.width
kept-below r v e m h = rw e (fits_below (field_of r) (kept r.values v) (setting-field r m) (kept-fits r v h))

-- what a Set of an accepted value shows: input 4 shows 17, every other value itself
abbrev pub settled : Values → ℕ → ℕ
settled (Values.Range least most) v = v
settled Values.Inputs v = cond (eqb v 4) 17 v

pub shown-kept : (s : Values) (v : ℕ) → accepts s v ≡ true → shown s (kept s v) ≡ settled s v
shown-kept (Values.Range least most) v h = refl
shown-kept Values.Inputs v h = input-by (λ v. input_shown (input_kept v) ≡ cond (eqb v 4) 17 v) v h refl refl refl refl

-- what is shown of a value that the field may hold is accepted, and is kept as that value
pub kept-shown : (s : Values) (k : ℕ) → fits_in (least_kept s) (most_kept s) k ≡ true → (accepts s (shown s k) ≡ true) × (kept s (shown s k) ≡ k)
kept-shown (Values.Range least most) k h = (h, refl)
kept-shown Values.Inputs k h = go k (both (leb 0 k) (leb k 2) h).1
  where
    go : (k : ℕ) → leb k 2 ≡ true → (input_accepts (input_shown k) ≡ true) × (input_kept (input_shown k) ≡ k)
    go zero e = (refl, refl)
    go (suc zero) e = (refl, refl)
    go (suc (suc zero)) e = (refl, refl)
    go (suc (suc (suc k))) e = absurd (omega (arith, leb-true (suc (suc (suc k))) 2 e))

-- ---- a Set

module _ (m : List ℕ) (r : Row) (v : ℕ) (l : Listed r) (inside : r.at + r.width ≤ 8 * length m) (h : accepts r.values v ≡ true) where
  pub set-moves : current (write m (field_of r) (kept r.values v)) r ≡ shown r.values (kept r.values v)
  unfolding current
  set-moves = ap (shown r.values) (read-write m (field_of r) (kept r.values v) (setting-field r l) inside (kept-fits r v h))

  pub set-shows : current (write m (field_of r) (kept r.values v)) r ≡ settled r.values v
  set-shows = set-moves ∙ shown-kept r.values v h

-- ---- power

pub power-moves : (m : List ℕ) (v : ℕ) → 12 ≤ length m → v ≤ 1 → is_on (write m power v) ≡ eqb v 1
unfolding is_on
power-moves m v l h =
    ap (λ (x : ℕ). eqb x 1) (read-write m power v refl (omega arith) (rw (le-leb 0 v (omega arith), le-leb v 1 h)))
