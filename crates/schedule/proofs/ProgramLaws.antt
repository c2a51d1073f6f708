-- A program is written field by field, in the first 34 of its 40 bits. So what was written is read back, and every other bit stays.
use borrow.Author.Rules.{rules}
use mathlib.Core.Path.{◌≡◌, refl, sym, ap, ap₂, ◌∙◌, subst}
use mathlib.Core.Bool.{true, ◌&&◌}
use mathlib.Core.Logic.{◌⊎◌, inl, inr, ◌≢◌, ⊎_elim}
use mathlib.Core.List.{List, [], ◌∷◌}
use Prim.Native.Nat.{ℕ, zero, suc, ◌+◌, ◌-◌, ◌*◌, ◌%◌, ◌≤◌, ◌<◌}
use native.Mathlib.Decide.{ℕ_discrete, dec_lt}
use native.Mathlib.Omega.{arith}
use lib.ListN.{length, get_or, set, take, drop, length-append, length-set, length-take, length-drop, get_or-append}
use lib.Seq.{drop-cons, take_all, get_or_at, get_or-set_same, get_or-set_other, ext_get_or}
use Rattle.bitfield.specs.Field.{get_field, put_field, Apart}
use Rattle.bitfield.proofs.Laws.{get-lt, length-put, byte_put, get-put, get-put_other}
use Rattle.bitfield.proofs.Within.{get-append}
use Rattle.wire.proofs.Tests.{both}
use Rattle.plan.specs.Stores.{applied}
use Rattle.plan.specs.Inner.{Within}
use Rattle.plan.proofs.Laws.{applied-copied, range_length, within-range}
use Rattle.store.specs.Fields.{write, field_stores}
use Rattle.store.proofs.StoreLaws.{read-bytes, around_length, around_within, field-applied}
use Rattle.schedule.specs.Programs.{
  Part,
  parts,
  program_bit,
  fields_at,
  program_of,
  first_programs,
  programs_of,
  with_fields,
  with_program,
  program_stores,
  enable_field,
  enable_stores,
  is_program,
  first_in_range,
  programs_in_range,
}
use Rattle.schedule.specs.Inner.{FitFrom, Fit}

-- ---- fields in the first 34 bits of a program

-- fields one behind the other, none before bit e of their program
abbrev pub InOrder : ℕ → List Part → Type 0
InOrder e [] = Unit
InOrder e (p ∷ ps) = (e ≤ p.at) × (p.at + p.width ≤ 34) × InOrder (p.at + p.width) ps

pub parts-in_order : InOrder 0 parts
parts-in_order = omega arith

-- what each write of a field keeps, a write of them all keeps
with-by : (P : List ℕ → Type 0) (at e : ℕ) → ((u : List ℕ) (a w v : ℕ) → at + e ≤ a → a + w ≤ at + 34 → P u → P (put_field u a w v))
    → (ps : List Part) (j d : ℕ) (fs m : List ℕ) → e ≤ d → InOrder d ps → P m → P (with_fields m at j ps fs)
with-by P at e step [] j d fs m h o p = p
with-by P at e step (q ∷ ps) j d fs m h o p =
    with-by P at e step ps (suc j) (q.at + q.width) fs (put_field m (at + q.at) q.width (get_or fs j 0)) (omega arith) o.2
    (step m (at + q.at) q.width (get_or fs j 0) (omega arith) (omega arith) p)

-- what is the same in every field of the 34 bits is the same program
fields-agree : (u m : List ℕ) (at e : ℕ) (ps : List Part) → InOrder e ps
    → ((a w : ℕ) → at ≤ a → a + w ≤ at + 34 → get_field u a w ≡ get_field m a w) → fields_at u at ps ≡ fields_at m at ps
fields-agree u m at e [] o h = refl
fields-agree u m at e (p ∷ ps) o h =
    ap₂ ◌∷◌ (h (at + p.at) p.width (omega arith) (omega arith)) (fields-agree u m at (p.at + p.width) ps o.2 h)

pub program_agrees : (u m : List ℕ) (k : ℕ)
    → ((at width : ℕ) → program_bit k ≤ at → at + width ≤ program_bit k + 34 → get_field u at width ≡ get_field m at width)
    → program_of u k ≡ program_of m k
program_agrees u m k h = fields-agree u m (program_bit k) 0 parts parts-in_order h

-- bytes 44 to 78 decide every program
pub program_same : (u m : List ℕ) → ((j : ℕ) → 44 ≤ j → j < 79 → get_or u j 0 ≡ get_or m j 0) → (k : ℕ) → k < 7 → program_of u k ≡ program_of m k
program_same u m h k l = program_agrees u m k (λ at width a b. read-bytes m u at width (λ j c d. h j (omega arith) (omega arith)))

-- bits of one program are apart from those of another
programs-apart : (j k at width at' width' : ℕ) → j ≢ k → program_bit j ≤ at → at + width ≤ program_bit j + 40 → program_bit k ≤ at'
    → at' + width' ≤ program_bit k + 40 → Apart at' width' at width
programs-apart j k at width at' width' n a b a' b' = go (dec_lt k j)
  where
    go : Dec (k < j) → Apart at' width' at width
    go (yes x) = inl (omega arith)
    go (no x) = inr (omega arith)

-- ---- what a write of a program leaves

module _ (m : List ℕ) (k : ℕ) (fs : List ℕ) where
  program_by : (P : List ℕ → Type 0)
      → ((u : List ℕ) (at width v : ℕ) → program_bit k ≤ at → at + width ≤ program_bit k + 34 → P u → P (put_field u at width v)) → P m
      → P (with_program m k fs)
  program_by P step p =
      with-by P (program_bit k) 0 (λ u a w v l h q. step u a w v (omega arith) h q) parts 0 0 fs m (omega arith) parts-in_order p

  pub program_length : length (with_program m k fs) ≡ length m
  program_length = program_by (λ u. length u ≡ length m) (λ u at width v _ _ p. length-put u at width v ∙ p) refl

  -- every field that has none of the 34 bits: the six spare bits, other programs, and what lies before and behind
  pub program_keeps_field : (at width : ℕ) → Apart (program_bit k) 34 at width → get_field (with_program m k fs) at width ≡ get_field m at width
  program_keeps_field at width a =
      program_by (λ u. get_field u at width ≡ get_field m at width)
      (λ u at' width' v l h p. get-put_other u at' width' v at width (⊎_elim (λ x. inl (omega arith)) (λ x. inr (omega arith)) a) ∙ p) refl

  pub program_keeps_byte : (j : ℕ) → (j < 44 + 5 * k) ⊎ (49 + 5 * k ≤ j) → get_or (with_program m k fs) j 0 ≡ get_or m j 0
  program_keeps_byte j o =
      program_by (λ u. get_or u j 0 ≡ get_or m j 0)
      (λ u at width v l h p. byte_put u at width v j (⊎_elim (λ x. inr (omega arith)) (λ x. inl (omega arith)) o) ∙ p) refl

  pub program_other : (j : ℕ) → j ≢ k → program_of (with_program m k fs) j ≡ program_of m j
  program_other j n =
      program_agrees (with_program m k fs) m j
      (λ at width l h. program_keeps_field at width
      (programs-apart j k at width (program_bit k) 34 n l (omega arith) (omega arith) (omega arith)))

-- ---- what is read after it

-- the values of some fields, from number j on
abbrev values_from : ℕ → List Part → List ℕ → List ℕ
values_from j [] fs = []
values_from j (p ∷ ps) fs = get_or fs j 0 ∷ values_from (suc j) ps fs

values-taken : (j : ℕ) (ps : List Part) (fs : List ℕ) → j + length ps ≤ length fs → values_from j ps fs ≡ take (length ps) (drop j fs)
values-taken j [] fs h = refl
values-taken j (p ∷ ps) fs h = rw (drop-cons fs j 0 (omega arith), values-taken (suc j) ps fs (omega arith))

-- a field is read as it was written, since the fields behind it are elsewhere
fields-shown : (m : List ℕ) (at j e : ℕ) (ps : List Part) (fs : List ℕ) → at + 34 ≤ 8 * length m → InOrder e ps → FitFrom j ps fs
    → fields_at (with_fields m at j ps fs) at ps ≡ values_from j ps fs
fields-shown m at j e [] fs h o f = refl
fields-shown m at j e (p ∷ ps) fs h o f =
    let a = at + p.at in
    let u : List ℕ = put_field m a p.width (get_or fs j 0) in
    let end = p.at + p.width in
    ap₂ ◌∷◌
    (with-by (λ t. get_field t a p.width ≡ get_field u a p.width) at end
    (λ t a' w v l _ q. get-put_other t a' w v a p.width (inr (omega arith)) ∙ q) ps (suc j) end fs u (omega arith) o.2 refl
    ∙ get-put m a p.width (get_or fs j 0) (omega arith) f.0)
    (fields-shown u at (suc j) end ps fs (omega (arith, length-put m a p.width (get_or fs j 0))) o.2 f.1)

first_length : (m : List ℕ) (n : ℕ) → length (first_programs m n) ≡ n
unfolding first_programs
first_length m zero = refl
first_length m (suc n) = simp (length-append, first_length m n) (omega arith)

first_at : (m : List ℕ) (n j : ℕ) → j < n → get_or (first_programs m n) j [] ≡ program_of m j
unfolding first_programs
first_at m zero j h = absurd (omega arith)
first_at m (suc n) j h = go (ℕ_discrete j n) (λ l. first_at m n j l)
  where
    go : Dec (j ≡ n) → (j < n → get_or (first_programs m n) j [] ≡ program_of m j) → get_or (first_programs m (suc n)) j [] ≡ program_of m j
    go (yes x) f = rw x (get_or_at (first_programs m n) (program_of m n) [] [] n (first_length m n))
    go (no x) f =
        let l : j < n = omega arith in
        get_or-append (first_programs m n) (program_of m n ∷ []) [] j (rw (first_length m n) l) ∙ f l

pub programs-length : (m : List ℕ) → length (programs_of m) ≡ 7
programs-length m = first_length m 7

pub programs-at : (m : List ℕ) (k : ℕ) → k < 7 → get_or (programs_of m) k [] ≡ program_of m k
programs-at m k h = first_at m 7 k h

module _ (m : List ℕ) (k : ℕ) (fs : List ℕ) (size : length m ≡ 128) (listed : k < 7) (seven : length fs ≡ 7) (fit : Fit fs) where
  pub program_shown_lem : program_of (with_program m k fs) k ≡ fs
  program_shown_lem =
      fields-shown m (program_bit k) 0 0 parts fs (omega arith) parts-in_order fit
      ∙ values-taken 0 parts fs (omega arith)
      ∙ take_all 7 fs (omega arith)

  pub programs-set : programs_of (with_program m k fs) ≡ set (programs_of m) k fs
  programs-set =
      ext_get_or [] (programs_of (with_program m k fs)) (set (programs_of m) k fs)
      (programs-length (with_program m k fs) ∙ sym (length-set (programs_of m) k fs ∙ programs-length m))
      (λ j h. go j (omega (arith, programs-length (with_program m k fs))) (ℕ_discrete j k))
    where
      go : (j : ℕ) → j < 7 → Dec (j ≡ k) → get_or (programs_of (with_program m k fs)) j [] ≡ get_or (set (programs_of m) k fs) j []
      go j h (yes x) =
          rw x
          (programs-at (with_program m k fs) k listed ∙ program_shown_lem
          ∙ sym (get_or-set_same (programs_of m) k fs [] (omega (arith, programs-length m))))
      go j h (no x) =
          programs-at (with_program m k fs) j h ∙ program_other m k fs j x
          ∙ sym (get_or-set_other (programs_of m) k j fs [] x ∙ programs-at m j h)

-- ---- every program in range

first_one : (m : List ℕ) (n : ℕ) → first_in_range m n ≡ true → (k : ℕ) → k < n → is_program (program_of m k) ≡ true
unfolding first_in_range
first_one m zero r k h = absurd (omega arith)
first_one m (suc n) r k h = go (ℕ_discrete k n) (λ l. first_one m n b.0 k l)
  where
    b : (first_in_range m n ≡ true) × (is_program (program_of m n) ≡ true)
    b = both (first_in_range m n) (is_program (program_of m n)) r

    go : Dec (k ≡ n) → (k < n → is_program (program_of m k) ≡ true) → is_program (program_of m k) ≡ true
    go (yes x) f = subst (λ (n : ℕ). is_program (program_of m n) ≡ true) (sym x) b.1
    go (no x) f = f (omega arith)

first_all : (m : List ℕ) (n : ℕ) → ((k : ℕ) → k < n → is_program (program_of m k) ≡ true) → first_in_range m n ≡ true
unfolding first_in_range
first_all m zero h = refl
first_all m (suc n) h = ap₂ ◌&&◌ (first_all m n (λ k l. h k (omega arith))) (h n (omega arith))

pub in_range-one : (m : List ℕ) → programs_in_range m ≡ true → (k : ℕ) → k < 7 → is_program (program_of m k) ≡ true
in_range-one m r k h = first_one m 7 r k h

pub in_range-all : (m : List ℕ) → ((k : ℕ) → k < 7 → is_program (program_of m k) ≡ true) → programs_in_range m ≡ true
in_range-all m h = first_all m 7 h

pub in_range-kept : (u m : List ℕ) → ((j : ℕ) → 44 ≤ j → j < 79 → get_or u j 0 ≡ get_or m j 0) → programs_in_range m ≡ true → programs_in_range u ≡ true
in_range-kept u m h r = in_range-all u (λ k l. ap is_program (program_same u m h k l) ∙ in_range-one m r k l)

pub in_range-program : (m : List ℕ) (k : ℕ) (fs : List ℕ) → length m ≡ 128 → k < 7 → length fs ≡ 7 → Fit fs → is_program fs ≡ true
    → programs_in_range m ≡ true → programs_in_range (with_program m k fs) ≡ true
in_range-program m k fs size listed seven fit p r = in_range-all (with_program m k fs) (λ j h. go j h (ℕ_discrete j k))
  where
    go : (j : ℕ) → j < 7 → Dec (j ≡ k) → is_program (program_of (with_program m k fs) j) ≡ true
    go j h (yes x) = rw x (ap is_program (program_shown_lem m k fs size listed seven fit) ∙ p)
    go j h (no x) = ap is_program (program_other m k fs j x) ∙ in_range-one m r j h

-- ---- what a write of a program stores

module _ (m : List ℕ) (k : ℕ) (fs : List ℕ) where
  abbrev five_bytes : List ℕ
  five_bytes = take (49 + 5 * k - (44 + 5 * k)) (drop (44 + 5 * k) (with_program m k fs))

  five_or_fewer : length five_bytes ≤ 5
  five_or_fewer = rw length-take (omega arith)

  pub program_applied : applied (program_stores m k fs) m ≡ with_program m k fs
  unfolding program_stores
  program_applied = applied-copied (44 + 5 * k) (49 + 5 * k) m (with_program m k fs) (program_length m k fs) (program_keeps_byte m k fs)

  pub program_count : length m ≡ 128 → k < 7 → length (program_stores m k fs) ≡ 5
  unfolding program_stores
  program_count size listed = rw (range_length, length-take, length-drop, program_length m k fs) (omega arith)

  pub program_within : k < 7 → Within 128 (program_stores m k fs)
  unfolding program_stores
  program_within listed = within-range 128 (44 + 5 * k) five_bytes (omega (arith, five_or_fewer))

-- ---- the bit that enables a program

module _ (m : List ℕ) (k enable : ℕ) where
  pub enable-applied : applied (enable_stores m k enable) m ≡ write m (enable_field k) enable
  enable-applied = field-applied m (enable_field k) enable

  pub enable-count : length m ≡ 128 → k < 7 → length (enable_stores m k enable) ≡ 1
  unfolding field_stores
  enable-count size listed =
      around_length (program_bit k + 31) 1 (write m (enable_field k) enable) (omega (arith, length-put m (program_bit k + 31) 1 enable))
      ∙ (omega arith)

  pub enable-within : k < 7 → Within 128 (enable_stores m k enable)
  unfolding field_stores
  enable-within listed = around_within 128 (program_bit k + 31) 1 (write m (enable_field k) enable) (omega arith)

  pub enable-keeps_field : (at width : ℕ) → Apart (program_bit k + 31) 1 at width
      → get_field (write m (enable_field k) enable) at width ≡ get_field m at width
  enable-keeps_field at width a = get-put_other m (program_bit k + 31) 1 enable at width a

  pub enable-other : (j : ℕ) → j ≢ k → program_of (write m (enable_field k) enable) j ≡ program_of m j
  enable-other j n =
      program_agrees (write m (enable_field k) enable) m j
      (λ at width l h. enable-keeps_field at width
      (programs-apart j k at width (program_bit k + 31) 1 n l (omega arith) (omega arith) (omega arith)))

  -- the first 31 bits of any program stay
  before-flags : (j at width : ℕ) → at + width ≤ 31
      → get_field (write m (enable_field k) enable) (program_bit j + at) width ≡ get_field m (program_bit j + at) width
  before-flags j at width h = enable-keeps_field (program_bit j + at) width (go (dec_lt k j))
    where
      go : Dec (k < j) → Apart (program_bit k + 31) 1 (program_bit j + at) width
      go (yes x) = inl (omega arith)
      go (no x) = inr (omega arith)

  pub in_range-enable : programs_in_range m ≡ true → programs_in_range (write m (enable_field k) enable) ≡ true
  in_range-enable r =
      in_range-all (write m (enable_field k) enable)
      (λ j h. rw (
        before-flags j 0 5 (omega arith),
        before-flags j 5 6 (omega arith),
        before-flags j 11 5 (omega arith),
        before-flags j 16 6 (omega arith),
      ) (in_range-one m r j h))

  -- FL is the bit that enables and two more
  flags : (u : List ℕ) → get_field u (program_bit k + 31) 3 ≡ 4 * get_field u (program_bit k + 31) 1 + get_field u (program_bit k + 32) 2
  flags u = let e : program_bit k + 31 + 1 ≡ program_bit k + 32 = omega arith in rw (get-append u (program_bit k + 31) 1 2, e) (omega arith)

  -- the other two bits of FL stay, and so do the other six fields
  pub enable-shown : length m ≡ 128 → k < 7 → enable ≤ 1
      → program_of (write m (enable_field k) enable) k ≡ set (program_of m k) 6 (4 * enable + get_or (program_of m k) 6 0 % 4)
  enable-shown size listed few =
      let u : List ℕ = write m (enable_field k) enable in
      let own : get_field u (program_bit k + 31) 1 ≡ enable = get-put m (program_bit k + 31) 1 enable (omega arith) (omega arith) in
      let rest = enable-keeps_field (program_bit k + 32) 2 (inl (omega arith)) in
      let low = get-lt m (program_bit k + 32) 2 in
      let flag : get_field u (program_bit k + 31) 3 ≡ 4 * enable + get_field m (program_bit k + 31) 3 % 4 = omega (arith, flags u, flags m) in
      search (before-flags, flag, rules)
