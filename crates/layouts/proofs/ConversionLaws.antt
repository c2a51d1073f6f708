-- A start on an older store: 36 bytes are stored, the mark last; what they leave is in range, and every byte but the mark and the programs' is as it was.
use mathlib.Core.Path.{◌≡◌, refl, sym, ap, ◌∙◌}
use mathlib.Core.Bool.{Bool, true, false, cond}
use mathlib.Core.List.{List, [], ◌∷◌, ◌++◌}
use mathlib.Core.Logic.{◌⊎◌, inl, inr, ⊎_elim, ◌≢◌}
use Rattle.std.proofs.Common.{Some}
use Prim.Native.Nat.{ℕ, ◌+◌, ◌≤◌, ◌<◌}
use native.Mathlib.Omega.{arith}
use lib.Dec.{eqb}
use lib.ListN.{length, get_or, set, take, drop, length-take, length-drop}
use lib.Seq.{ext_get_or, get_or-take, get_or-drop, get_or-set_same, get_or-set_other}
use borrow.Author.Tests.{eq-eqb, ne_eqb, eqb-true}
use Rattle.store.proofs.Tables.{either}
use Rattle.plan.specs.Stores.{Entry, entry, applied, range_of}
use Rattle.plan.specs.Inner.{Committable}
use Rattle.plan.proofs.Laws.{applied-append, applied-length, within-append, within-range, range-in, range-out}
use Rattle.store.specs.Layout.{fields_in_range, rest_place}
use Rattle.store.proofs.StoreLaws.{field-placed, in_range-same, read-bytes}
use Rattle.schedule.specs.Programs.{unused_programs}
use Rattle.schedule.proofs.UnusedLaws.{unused_in-range}
use Rattle.layouts.specs.Layouts.{older_mark, layout_mark, is_layout, in_range, fits_layout, conversion}
use Rattle.layouts.specs.Inner.{due_in}
use Rattle.layouts.proofs.RangeLaws.{range-of}

-- with another mark nothing is stored
pub conversion-none : (m : List ℕ) → get_or m 0 0 ≢ older_mark → conversion m ≡ []
unfolding conversion
conversion-none m h = rw (ne_eqb (get_or m 0 0) older_mark h)

abbrev entries : List Entry
entries = range_of rest_place unused_programs ++ (entry 0 layout_mark ∷ [])

conversion-by : (P : List Entry → Type 0) (m : List ℕ) → P entries → P [] → P (conversion m)
unfolding conversion
conversion-by P m some none = go (eqb (get_or m 0 0) older_mark)
  where
    go : (t : Bool) → P (cond t entries [])
    go true = some
    go false = none

pub conversion-ready : (m : List ℕ) → Committable 128 (conversion m)
conversion-ready m =
    conversion-by (λ (es : List Entry). Committable 128 es) m
    (record { few = omega arith; within = within-append 128 (range_of rest_place unused_programs) (entry 0 layout_mark ∷ []) (within-range 128 rest_place unused_programs (omega arith)) (omega arith, tt) })
    (record { few = omega arith; within = tt })

module _ (m : List ℕ) (size : length m ≡ 128) (older : get_or m 0 0 ≡ older_mark) where
  pub conversion-is : conversion m ≡ entries
  unfolding conversion
  conversion-is = rw (eq-eqb (get_or m 0 0) older_mark older)

  pub conversion-count : length (conversion m) ≡ 36
  conversion-count = ap length conversion-is

  -- the programs, and then the mark
  with-programs : List ℕ
  with-programs = applied (range_of rest_place unused_programs) m

  left_is : applied (conversion m) m ≡ set with-programs 0 layout_mark
  unfolding with-programs
  left_is = ap (λ (es : List Entry). applied es m) conversion-is ∙ applied-append (range_of rest_place unused_programs) (entry 0 layout_mark ∷ []) m

  programs-length : length with-programs ≡ 128
  unfolding with-programs
  programs-length = applied-length (range_of rest_place unused_programs) m ∙ size

  pub conversion-mark : get_or (applied (conversion m) m) 0 0 ≡ layout_mark
  conversion-mark = ap (λ (l : List ℕ). get_or l 0 0) left_is ∙ get_or-set_same with-programs 0 layout_mark 0 (omega (arith, programs-length))

  pub conversion-keeps : (j : ℕ) → 0 < j → (j < 44) ⊎ (79 ≤ j) → get_or (applied (conversion m) m) j 0 ≡ get_or m j 0
  unfolding with-programs
  conversion-keeps j past h =
      ap (λ (l : List ℕ). get_or l j 0) left_is ∙ get_or-set_other with-programs 0 j layout_mark 0 (λ e. omega arith)
      ∙ range-out rest_place unused_programs m j (⊎_elim (λ x. inl (omega arith)) (λ x. inr (omega arith)) h)

  pub conversion-programs : take 35 (drop 44 (applied (conversion m) m)) ≡ unused_programs
  unfolding with-programs
  conversion-programs =
      let all : length (applied (conversion m) m) ≡ 128 = applied-length (conversion m) m ∙ size in
      let part : length (take 35 (drop 44 (applied (conversion m) m))) ≡ 35 = rw (length-take, length-drop, all) refl in
      ext_get_or 0 (take 35 (drop 44 (applied (conversion m) m))) unused_programs part (λ i h. at i (omega (arith, h, part)))
    where
      at : (i : ℕ) → i < 35 → get_or (take 35 (drop 44 (applied (conversion m) m))) i 0 ≡ get_or unused_programs i 0
      at i h =
          get_or-take 35 (drop 44 (applied (conversion m) m)) i 0 h ∙ get_or-drop 44 (applied (conversion m) m) i 0
          ∙ ap (λ (l : List ℕ). get_or l (44 + i) 0) left_is ∙ get_or-set_other with-programs 0 (44 + i) layout_mark 0 (λ e. omega arith)
          ∙ range-in rest_place unused_programs m i (omega arith) (omega arith)

  -- the fields of the older layout in range, and programs that are
  pub conversion-ranged : fields_in_range m ≡ true → in_range (applied (conversion m) m) ≡ true
  conversion-ranged h =
      range-of (applied (conversion m) m)
      (in_range-same m (applied (conversion m) m)
      (λ f e. let p = field-placed f e in
      read-bytes m (applied (conversion m) m) f.at f.width (λ j a b. conversion-keeps j (omega (arith, p.past)) (inl (omega (arith, p.before)))))
      h)
      (unused_in-range (applied (conversion m) m) conversion-programs)

-- ---- any store that a start takes

-- the mark of a layout is one of the two
pub layout_mark_lem : (k : ℕ) → is_layout k ≡ true → (k ≡ older_mark) ⊎ (k ≡ layout_mark)
layout_mark_lem k h = ⊎_elim (λ e. inl (eqb-true k older_mark e)) (λ e. inr (eqb-true k layout_mark e)) (either (eqb k older_mark) (eqb k layout_mark) h)

pub fits-own : (m : List ℕ) → get_or m 0 0 ≡ layout_mark → fits_layout m ≡ in_range m
unfolding fits_layout
fits-own m e = rw (ne_eqb (get_or m 0 0) older_mark (λ q. omega arith))

fits-older : (m : List ℕ) → get_or m 0 0 ≡ older_mark → fits_layout m ≡ fields_in_range m
unfolding fits_layout
fits-older m e = rw (eq-eqb (get_or m 0 0) older_mark e)

-- a store of this layout, in range
pub record Current (m : List ℕ) : Type 0 where
  pub size : length m ≡ 128
  pub marked : get_or m 0 0 ≡ layout_mark
  pub ranged : in_range m ≡ true

pub converted-current : (m : List ℕ) → length m ≡ 128 → is_layout (get_or m 0 0) ≡ true → fits_layout m ≡ true → Current (applied (conversion m) m)
converted-current m size is fits = go (layout_mark_lem (get_or m 0 0) is)
  where
    go : (get_or m 0 0 ≡ older_mark) ⊎ (get_or m 0 0 ≡ layout_mark) → Current (applied (conversion m) m)
    go (inl e) =
        record {
          size = applied-length (conversion m) m ∙ size;
          marked = conversion-mark m size e;
          ranged = conversion-ranged m size e (sym (fits-older m e) ∙ fits);
        }
    go (inr e) =
        rw (conversion-none m (λ q. omega arith)) (record { size = size; marked = e; ranged = sym (fits-own m e) ∙ fits })

-- ---- what is due

pub due-fits : (m : List ℕ) → fits_layout m ≡ true → due_in m ≡ Some (length (conversion m))
unfolding due_in
due-fits m f = rw f
