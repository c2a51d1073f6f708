-- What decoding and packing do to bytes 44 to 78 they do to the store: a program more of the seven, and one of the seven replaced.
use mathlib.Core.Path.{◌≡◌, refl, sym, ap, ◌∙◌, subst}
use mathlib.Core.List.{List, [], ◌∷◌}
use mathlib.Core.Logic.{◌≢◌}
use Prim.Native.Nat.{ℕ, zero, suc, ◌+◌, ◌-◌, ◌*◌, ◌≤◌, ◌<◌}
use native.Mathlib.Nat.{add_assoc}
use native.Mathlib.Decide.{ℕ_discrete}
use native.Mathlib.Omega.{arith}
use lib.ListN.{length, get_or, set, take, drop}
use lib.Seq.{take-suc-set, take_all, drop-drop, get_or-set_same, get_or-set_other}
use Rattle.bitfield.specs.Field.{put_field}
use Rattle.bitfield.proofs.Laws.{get-lt, put-get}
use Rattle.store.proofs.FieldLaws.{take_put, drop-put, part_of-first}
use Rattle.schedule.specs.Programs.{Part, parts, program_bit, program_of, first_programs, programs_of, with_fields, with_program}
use Rattle.schedule.specs.Inner.{area_of, with_first, with_programs, Fit, AllFit}
use Rattle.schedule.proofs.ProgramLaws.{InOrder, parts-in_order, program_other, programs-length, programs-at}

-- ---- bytes 44 to 78

area_put : (m : List ℕ) (at width v : ℕ) → at + width ≤ 280 → area_of (put_field m (352 + at) width v) ≡ put_field (area_of m) at width v
unfolding area_of
area_put m at width v h = ap (take 35) (drop-put 44 m at width v) ∙ take_put 35 (drop 44 m) at width v h

area_fields : (m : List ℕ) (at j e : ℕ) (ps : List Part) (fs : List ℕ) → at + 40 ≤ 280 → InOrder e ps
    → area_of (with_fields m (352 + at) j ps fs) ≡ with_fields (area_of m) at j ps fs
area_fields m at j e [] fs h o = refl
area_fields m at j e (p ∷ ps) fs h o =
    let v = get_or fs j 0 in
    area_fields (put_field m (352 + at + p.at) p.width v) at (suc j) (p.at + p.width) ps fs h o.2
    ∙ ap (λ (x : List ℕ). with_fields x at (suc j) ps fs) (rw add_assoc (area_put m (at + p.at) p.width v (omega arith)))

area_program : (m : List ℕ) (k : ℕ) (fs : List ℕ) → k < 7 → area_of (with_program m k fs) ≡ with_fields (area_of m) (40 * k) 0 parts fs
area_program m k fs h = area_fields m (40 * k) 0 0 parts fs (omega arith) parts-in_order

-- a program's five bytes among the 35 and in the store
pub area_part : (m : List ℕ) (k : ℕ) → k < 7
    → take (5 * k + 5 - 5 * k) (drop (5 * k) (area_of m)) ≡ take (49 + 5 * k - (44 + 5 * k)) (drop (44 + 5 * k) m)
unfolding area_of
area_part m k h =
    let n : 5 * k + 5 - 5 * k ≡ 49 + 5 * k - (44 + 5 * k) = omega arith in
    part_of-first (5 * k) (5 * k + 5) 35 (drop 44 m) (omega arith) (omega arith) ∙ rw (n, drop-drop (5 * k) 44 m)

-- ---- a program more

pub programs-turn : (m : List ℕ) (programs : List (List ℕ)) (k : ℕ) → k < length programs → take k programs ≡ first_programs m k
    → take (suc k) (set programs k (program_of m k)) ≡ first_programs m (suc k)
unfolding first_programs
programs-turn m programs k h e = take-suc-set programs k (program_of m k) h ∙ rw e

pub programs-end : (m : List ℕ) (programs : List (List ℕ)) → length programs ≡ 7 → take 7 programs ≡ first_programs m 7 → programs ≡ programs_of m
programs-end m programs room e = sym (take_all 7 programs (omega arith)) ∙ e

pub packed-turn : (m : List ℕ) (programs : List (List ℕ)) (k : ℕ) {a b fields : List ℕ} → k < 7 → a ≡ area_of (with_first m programs k)
    → fields ≡ get_or programs k [] → b ≡ with_fields a (40 * k) 0 parts fields → b ≡ area_of (with_first m programs (suc k))
unfolding with_first
packed-turn m programs k h e f g = g ∙ rw (e, f) (sym (area_program (with_first m programs k) k (get_or programs k []) h))

-- ---- one of the seven replaced and all packed: that program is put, and nothing else

-- a program put back as it was changes nothing
put_back : (m : List ℕ) (k : ℕ) → with_program m k (program_of m k) ≡ m
put_back m k = simp put-get

module _ (m : List ℕ) (k : ℕ) (fs : List ℕ) (h : k < 7) where
  abbrev rows : List (List ℕ)
  rows = set (programs_of m) k fs

  row_other : (j : ℕ) → j < 7 → j ≢ k → get_or rows j [] ≡ program_of m j
  row_other j l n = get_or-set_other (programs_of m) k j fs [] n ∙ programs-at m j l

  row_same : get_or rows k [] ≡ fs
  row_same = get_or-set_same (programs_of m) k fs [] (rw (programs-length m) h)

  before : (n : ℕ) → n ≤ k → with_first m rows n ≡ m
  unfolding with_first
  before zero l = refl
  before (suc n) l = rw (before n (omega arith), row_other n (omega arith) (λ e. omega arith)) (put_back m n)

  after : (n : ℕ) → k < n → n ≤ 7 → with_first m rows n ≡ with_program m k fs
  unfolding with_first
  after zero l r = absurd (omega arith)
  after (suc n) l r = go (ℕ_discrete k n) (λ x. after n x (omega arith))
    where
      go : Dec (k ≡ n) → (k < n → with_first m rows n ≡ with_program m k fs) → with_first m rows (suc n) ≡ with_program m k fs
      go (yes x) f = subst (λ (n : ℕ). with_first m rows (suc n) ≡ with_program m k fs) x (rw (before k (omega arith), row_same))
      go (no x) f =
          let u : List ℕ = with_program m k fs in
          ap (λ (s : List ℕ). with_program s n (get_or rows n [])) (f (omega arith))
          ∙ ap (with_program u n) (row_other n (omega arith) (λ e. x (sym e)) ∙ sym (program_other m k fs n (λ e. x (sym e))))
          ∙ put_back u n

  pub one-packed : with_programs m rows ≡ with_program m k fs
  one-packed = after 7 h (omega arith)

  -- what is decoded fits, so the seven fit where the one that is new does
  pub replaced_fits : Fit fs → AllFit rows
  replaced_fits f j l = go (ℕ_discrete j k)
    where
      decoded_fits : Fit (program_of m j)
      decoded_fits =
          let at = program_bit j in (
            get-lt m (at + 0) 5,
            (get-lt m (at + 5) 6, (get-lt m (at + 11) 5, (get-lt m (at + 16) 6, (get-lt m (at + 22) 2, (get-lt m (at + 24) 7, (get-lt m (at + 31) 3, tt)))))),
          )

      go : Dec (j ≡ k) → Fit (get_or rows j [])
      go (yes e) = subst Fit (sym (ap (λ (j : ℕ). get_or rows j []) e ∙ row_same)) f
      go (no n) = subst Fit (sym (row_other j l n)) decoded_fits
