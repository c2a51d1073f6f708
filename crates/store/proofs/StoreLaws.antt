-- The 17 fields: none has a bit in common with another, so a write of one is read back and leaves the others, the mark and the tags.
use mathlib.Core.Path.{◌≡◌, refl, sym, ap, ◌∙◌, subst}
use mathlib.Core.Bool.{Bool, true, false, cond, ◌&&◌, ◌||◌, or-true, false≢true}
use mathlib.Core.Logic.{◌≢◌, ◌⊎◌, inl, inr, ⊎_elim}
use mathlib.Core.List.{List, [], ◌∷◌, map, Memᴰ}
use Prim.Native.Nat.{ℕ, ◌+◌, ◌-◌, ◌*◌, ◌/◌, ◌%◌, ◌^◌, ◌≤◌, ◌<◌}
use native.Mathlib.Nat.{min-le_left}
use native.Mathlib.Omega.{arith}
use lib.Dec.{leb, ltb, eqb}
use lib.ListN.{length, get_or, take, drop, length-take, length-drop}
use lib.Seq.{length-take-le}
use borrow.Author.Tests.{leb-true, ltb-true, eqb-true, eq-eqb}
use Rattle.wire.proofs.Tests.{both}
use Rattle.bitfield.specs.Field.{get_field, bit, Apart}
use Rattle.bitfield.proofs.Laws.{get-put, get-put_other, byte_put, length-put, get-same}
use Rattle.plan.specs.Stores.{applied}
use Rattle.plan.specs.Inner.{Within}
use Rattle.plan.proofs.Laws.{applied-copied, range_length, within-range}
use Rattle.store.specs.Fields.{Field, read, write, fits, bytes_around, field_stores}
use Rattle.store.specs.Settings.{settings}
use Rattle.store.specs.Layout.{fields, fields_in_range, spare_bit, tag_place, rest_place}
use Rattle.store.specs.Inner.{InStore}
use Rattle.store.specs.declared.settings.Row.{Row}
use Rattle.store.proofs.Tables.{either, each, each_member, two-members}

-- ---- which fields there are

abbrev pub is_same : Field → Field → Bool
is_same f g =
    eqb f.at g.at
    && (eqb f.width g.width && (eqb f.least g.least && (eqb f.most g.most && eqb f.unused g.unused)))

abbrev pub is_among : Field → List Field → Bool
is_among f [] = false
is_among f (g ∷ gs) = is_same f g || is_among f gs

-- one of the 17; `refl` shows it of a field of the layout
abbrev pub is_field : Field → Bool
is_field f = is_among f fields

same-field : (f g : Field) → is_same f g ≡ true → f ≡ g
same-field f g e =
    let a = both (eqb f.at g.at) _ e in
    let b = both (eqb f.width g.width) _ a.1 in
    let c = both (eqb f.least g.least) _ b.1 in
    let d = both (eqb f.most g.most) _ c.1 in
    λ i. record {
      at = eqb-true f.at g.at a.0 i;
      width = eqb-true f.width g.width b.0 i;
      least = eqb-true f.least g.least c.0 i;
      most = eqb-true f.most g.most d.0 i;
      unused = eqb-true f.unused g.unused d.1 i;
    }

own_field : (f : Field) → is_same f f ≡ true
own_field f = simp eq-eqb

among : (f : Field) (fs : List Field) → is_among f fs ≡ true → Memᴰ f fs
among f [] m = absurd (false≢true m)
among f (g ∷ gs) m =
    ⊎_elim (λ s. Memᴰ.head (same-field f g s)) (λ n. Memᴰ.tail (among f gs n)) (either (is_same f g) (is_among f gs) m)

-- what each of some fields passes, one of them passes
pub each_one : (p : Field → Bool) (fs : List Field) (f : Field) → each p fs ≡ true → is_among f fs ≡ true → p f ≡ true
each_one p fs f e m = each_member p fs f e (among f fs m)

-- what each one of some fields passes, they all pass
pub each_all : (p : Field → Bool) (fs : List Field) → ((f : Field) → is_among f fs ≡ true → p f ≡ true) → each p fs ≡ true
each_all p [] h = refl
each_all p (f ∷ fs) h = rw (h f (rw own_field), each_all p fs (λ g m. h g (rw (m, or-true))))

-- ---- where they lie

-- each begins where the one before it ends, the first and the last at these bits
abbrev pub is_packed : ℕ → ℕ → List Field → Bool
is_packed from to [] = eqb from to
is_packed from to (f ∷ fs) = eqb f.at from && is_packed (from + f.width) to fs

pub fields-packed : is_packed 8 94 fields ≡ true
fields-packed = refl

pub fields-count : length fields ≡ 17
fields-count = refl

-- page and code of each setting
pub setting-pairs : map (λ (r : Row). 256 * r.page + r.code) settings
    ≡ 0x0010 ∷ 0x0060 ∷ 0x0093 ∷ 0x0274 ∷ 0x0275 ∷ 0x1033 ∷ 0x1034 ∷ 0x104A ∷ []
setting-pairs = refl

abbrev pub is_apart : ℕ → ℕ → ℕ → ℕ → Bool
is_apart at width at' width' = leb (at + width) at' || leb (at' + width') at

pub apart : (at width at' width' : ℕ) → is_apart at width at' width' ≡ true → Apart at width at' width'
apart at width at' width' e = ⊎_elim (λ x. inl (leb-true _ _ x)) (λ x. inr (leb-true _ _ x)) (either (leb (at + width) at') _ e)

pub apart_sym : (at width at' width' : ℕ) → Apart at width at' width' → Apart at' width' at width
apart_sym at width at' width' a = ⊎_elim inr inl a

pub either_apart : (at width at' width' : ℕ) → (is_apart at width at' width' ≡ true) ⊎ (is_apart at' width' at width ≡ true)
    → Apart at width at' width'
either_apart at width at' width' a =
    ⊎_elim (apart at width at' width') (λ e. apart_sym at' width' at width (apart at' width' at width e)) a

-- a field past the mark, none of it spare or in a tag, within two bytes, and wide enough for what it may hold
pub record Placed (f : Field) : Type 0 where
  pub past : 8 ≤ f.at
  pub some : 0 < f.width
  pub two : f.at % 8 + f.width ≤ 16
  pub before : f.at + f.width ≤ 8 * rest_place
  pub wide : f.most < 2 ^ f.width
  pub not_spare : Apart f.at f.width spare_bit 2
  pub not_tag : Apart f.at f.width (8 * tag_place) 256

abbrev is_placed : Field → Bool
is_placed f =
    leb 8 f.at
    && (ltb 0 f.width
    && (leb (f.at % 8 + f.width) 16
    && (leb (f.at + f.width) (8 * rest_place)
    && (ltb f.most (2 ^ f.width) && (is_apart f.at f.width spare_bit 2 && is_apart f.at f.width (8 * tag_place) 256)))))

pub field-placed : (f : Field) → is_field f ≡ true → Placed f
field-placed f e =
    let a = both (leb 8 f.at) _ (each_one is_placed fields f refl e) in
    let b = both (ltb 0 f.width) _ a.1 in
    let c = both (leb (f.at % 8 + f.width) 16) _ b.1 in
    let d = both (leb (f.at + f.width) (8 * rest_place)) _ c.1 in
    let w = both (ltb f.most (2 ^ f.width)) _ d.1 in
    let s = both (is_apart f.at f.width spare_bit 2) _ w.1 in
    record {
      past = leb-true 8 f.at a.0;
      some = ltb-true 0 f.width b.0;
      two = leb-true (f.at % 8 + f.width) 16 c.0;
      before = leb-true (f.at + f.width) (8 * rest_place) d.0;
      wide = ltb-true f.most (2 ^ f.width) w.0;
      not_spare = apart f.at f.width spare_bit 2 s.0;
      not_tag = apart f.at f.width (8 * tag_place) 256 s.1;
    }

pub field-in_store : (f : Field) → is_field f ≡ true → InStore f.at f.width
field-in_store f e = let p = field-placed f e in record { some = p.some; two = p.two; within = omega arith }

pub same-or_apart : (f g : Field) → is_field f ≡ true → is_field g ≡ true → (f ≡ g) ⊎ Apart f.at f.width g.at g.width
same-or_apart f g e d =
    ⊎_elim inl
    (λ a. inr (either_apart f.at f.width g.at g.width a))
    (two-members (λ f g. is_apart f.at f.width g.at g.width) fields f g refl (among f fields e) (among g fields d))

pub fields-apart : (f g : Field) → is_field f ≡ true → is_field g ≡ true → f ≢ g → Apart f.at f.width g.at g.width
fields-apart f g e d n = ⊎_elim (λ s. absurd (n s)) (λ a. a) (same-or_apart f g e d)

-- ---- what is read after a write

-- a value that a field may hold fits its width
pub fits_below : (f : Field) (v : ℕ) → is_field f ≡ true → fits f v ≡ true → v < 2 ^ f.width
fits_below f v e h =
    let p = field-placed f e in
    omega (arith, leb-true v f.most (both (leb f.least v) (leb v f.most) h).1)

module _ (m : List ℕ) (f : Field) (v : ℕ) (e : is_field f ≡ true) where
  -- what was written is read
  pub read-write : f.at + f.width ≤ 8 * length m → fits f v ≡ true → read (write m f v) f ≡ v
  read-write l h = get-put m f.at f.width v l (fits_below f v e h)

  -- another field is read as before
  pub read-write_other : (g : Field) → is_field g ≡ true → f ≢ g → read (write m f v) g ≡ read m g
  read-write_other g d n = get-put_other m f.at f.width v g.at g.width (fields-apart f g e d n)

  -- both in one, for fields of the layout, where the test computes
  pub read-write_any : f.at + f.width ≤ 8 * length m → fits f v ≡ true → (g : Field) → is_field g ≡ true
      → read (write m f v) g ≡ cond (is_same f g) v (read m g)
  read-write_any l h g d = go (is_same f g) refl
    where
      go : (b : Bool) → is_same f g ≡ b → read (write m f v) g ≡ cond b v (read m g)
      go true q = ap (read (write m f v)) (sym (same-field f g q)) ∙ read-write l h
      go false q = read-write_other g d (λ s. false≢true (sym q ∙ ap (is_same f) (sym s) ∙ own_field f))

  pub field-keeps_mark : get_or (write m f v) 0 0 ≡ get_or m 0 0
  field-keeps_mark = byte_put m f.at f.width v 0 (inr (field-placed f e).past)

  -- the tag and the former tag stay
  pub field-keeps_tags : (j : ℕ) → tag_place ≤ j → j < rest_place → get_or (write m f v) j 0 ≡ get_or m j 0
  field-keeps_tags j h k =
      byte_put m f.at f.width v j (⊎_elim (λ a. inl (omega (arith, a, h))) (λ a. inr (omega (arith, a, k))) (field-placed f e).not_tag)

-- ---- the two spare bits, and the bytes behind the tags

pub record RestKept (m u : List ℕ) : Type 0 where
  pub bits : get_field u spare_bit 2 ≡ get_field m spare_bit 2
  pub bytes : (j : ℕ) → rest_place ≤ j → get_or u j 0 ≡ get_or m j 0

pub field-keeps_rest : (m : List ℕ) (f : Field) (v : ℕ) → is_field f ≡ true → RestKept m (write m f v)
field-keeps_rest m f v e =
    let p = field-placed f e in
    record {
      bits = get-put_other m f.at f.width v spare_bit 2 p.not_spare;
      bytes = λ j h. byte_put m f.at f.width v j (inl (omega arith));
    }

-- ---- every field in range

pub in_range-one : (m : List ℕ) (f : Field) → fields_in_range m ≡ true → is_field f ≡ true → fits f (read m f) ≡ true
unfolding fields_in_range
in_range-one m f h e = each_one (λ f. fits f (read m f)) fields f h e

pub in_range-all : (m : List ℕ) → ((f : Field) → is_field f ≡ true → fits f (read m f) ≡ true) → fields_in_range m ≡ true
unfolding fields_in_range
in_range-all m h = each_all (λ f. fits f (read m f)) fields h

pub in_range-write : (m : List ℕ) (f : Field) (v : ℕ) → is_field f ≡ true → f.at + f.width ≤ 8 * length m → fits f v ≡ true
    → fields_in_range m ≡ true → fields_in_range (write m f v) ≡ true
in_range-write m f v e l h r =
    in_range-all (write m f v)
    (λ g d. ⊎_elim
    (λ s. subst (λ (x : Field). fits x (read (write m f v) x) ≡ true) s (rw (read-write m f v e l h) h))
    (λ a. rw (get-put_other m f.at f.width v g.at g.width a) (in_range-one m g r d))
    (same-or_apart f g e d))

-- the bytes that have a bit of a field decide what it holds
pub read-bytes : (m u : List ℕ) (at width : ℕ) → ((j : ℕ) → at < 8 * j + 8 → 8 * j < at + width → get_or u j 0 ≡ get_or m j 0)
    → get_field u at width ≡ get_field m at width
unfolding bit
read-bytes m u at width h = get-same u m at width (λ k a b. rw (h (k / 8) (omega arith) (omega arith)))

-- two stores that hold the same in each field
pub in_range-same : (m u : List ℕ) → ((f : Field) → is_field f ≡ true → read u f ≡ read m f) → fields_in_range m ≡ true → fields_in_range u ≡ true
in_range-same m u h r = in_range-all u (λ f e. rw (h f e) (in_range-one m f r e))

-- ---- what a change of fields stores

pub around_few : (at width : ℕ) (m : List ℕ) → length (bytes_around at width m) ≤ (at + width + 7) / 8 - at / 8
around_few at width m = rw (range_length, length-take) (min-le_left _ _)

pub around_within : (n at width : ℕ) (m : List ℕ) → at + width ≤ 8 * n → Within n (bytes_around at width m)
around_within n at width m h =
    let bs : List ℕ = take ((at + width + 7) / 8 - at / 8) (drop (at / 8) m) in
    within-range n (at / 8) bs (omega (arith, around_few at width m, range_length (at / 8) bs))

pub around_length : (at width : ℕ) (m : List ℕ) → at + width ≤ 8 * length m
    → length (bytes_around at width m) ≡ (at + width + 7) / 8 - at / 8
around_length at width m h =
    rw range_length (length-take-le ((at + width + 7) / 8 - at / 8) (drop (at / 8) m) (simp length-drop (omega arith)))

-- a store that differs in those bits only is what storing their bytes gives
pub around_applied : (at width : ℕ) (m u : List ℕ) → length u ≡ length m
    → ((j : ℕ) → Apart at width (8 * j) 8 → get_or u j 0 ≡ get_or m j 0) → applied (bytes_around at width u) m ≡ u
around_applied at width m u l k =
    applied-copied (at / 8) ((at + width + 7) / 8) m u l (λ j o. k j (⊎_elim (λ x. inr (omega arith)) (λ x. inl (omega arith)) o))

pub field-applied : (m : List ℕ) (f : Field) (v : ℕ) → applied (field_stores m f v) m ≡ write m f v
unfolding field_stores
field-applied m f v =
    around_applied f.at f.width m (write m f v) (length-put m f.at f.width v) (byte_put m f.at f.width v)

module _ (m : List ℕ) (f : Field) (v : ℕ) (e : is_field f ≡ true) where
  pub field-few : length (field_stores m f v) ≤ 2
  unfolding field_stores
  field-few = let p = field-placed f e in omega (arith, around_few f.at f.width (write m f v))

  pub field-within : Within 128 (field_stores m f v)
  unfolding field_stores
  field-within = let p = field-placed f e in around_within 128 f.at f.width (write m f v) (omega arith)
