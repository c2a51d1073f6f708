-- Accepted numbers and kept fields: what is kept fits its fields and may be held, and what is shown of it is what was sent.
use mathlib.Core.Path.{◌≡◌, refl, sym, ap, ap₂, ◌∙◌}
use mathlib.Core.Bool.{true, ◌&&◌}
use mathlib.Core.Logic.{⊎_elim}
use mathlib.Core.List.{List, [], ◌∷◌}
use Prim.Native.Nat.{ℕ, zero, suc, ◌+◌, ◌<◌}
use native.Mathlib.Omega.{arith}
use lib.Dec.{leb, ltb, eqb}
use lib.ListN.{length, get_or, drop, replicate, length-drop}
use lib.Seq.{drop-cons}
use borrow.Author.Tests.{ltb-true, leb-true, eqb-true}
use Rattle.bitfield.specs.Field.{get_field}
use Rattle.bitfield.proofs.Laws.{get-lt}
use Rattle.wire.specs.Digits.{Bytes}
use Rattle.wire.proofs.Tests.{both, cond-by}
use Rattle.store.proofs.Tables.{either}
use Rattle.schedule.specs.Programs.{is_time, is_program, program_bit}
use Rattle.schedule.specs.Numbers.{is_input, input_kept, input_shown, is_listed, are_zero, is_accepted, kept_fields, numbers_of, shown_program}
use Rattle.schedule.specs.Inner.{Fit}

-- ---- accepted numbers, one by one

record Accepted (ns : List ℕ) : Type 0 where
  listed : is_listed (get_or ns 0 0) ≡ true
  on : is_time (get_or ns 1 0) (get_or ns 2 0) ≡ true
  off : is_time (get_or ns 3 0) (get_or ns 4 0) ≡ true
  input : is_input (get_or ns 5 0) ≡ true
  week : leb (get_or ns 6 0) 127 ≡ true
  flags : leb (get_or ns 7 0) 7 ≡ true
  reserved : are_zero (drop 8 ns) ≡ true

accepted : (ns : List ℕ) → is_accepted ns ≡ true → Accepted ns
unfolding is_accepted
accepted ns e =
    let r = both _ (are_zero (drop 8 ns)) e in
    let f = both _ (leb (get_or ns 7 0) 7) r.0 in
    let w = both _ (leb (get_or ns 6 0) 127) f.0 in
    let i = both _ (is_input (get_or ns 5 0)) w.0 in
    let o = both _ (is_time (get_or ns 3 0) (get_or ns 4 0)) i.0 in
    let l = both (is_listed (get_or ns 0 0)) (is_time (get_or ns 1 0) (get_or ns 2 0)) o.0 in
    record { listed = l.0; on = l.1; off = o.1; input = i.1; week = w.1; flags = f.1; reserved = r.1 }

pub accepted-listed : (ns : List ℕ) → is_accepted ns ≡ true → get_or ns 0 0 < 7
accepted-listed ns e = omega (arith, leb-true (get_or ns 0 0) 6 (accepted ns e).listed)

-- ---- what is kept

-- a time fits its five and six bits
pub time_fits : (hour minute : ℕ) → is_time hour minute ≡ true → (hour < 32) × (minute < 64)
time_fits hour minute e =
    ⊎_elim
    (λ t. let b = both (ltb hour 24) (ltb minute 60) t in (omega (arith, ltb-true hour 24 b.0), omega (arith, ltb-true minute 60 b.1)))
    (λ t. let b = both (eqb hour 24) (eqb minute 60) t in (omega (arith, eqb-true hour 24 b.0), omega (arith, eqb-true minute 60 b.1)))
    (either (ltb hour 24 && ltb minute 60) _ e)

pub input-fits : (v : ℕ) → input_kept v < 4
input-fits v =
    cond-by (λ x. x < 4) (eqb v 0) 0 _ (λ _. omega arith)
    (λ _. cond-by (λ x. x < 4) (eqb v 1) 1 _ (λ _. omega arith)
    (λ _. cond-by (λ x. x < 4) (eqb v 3) 2 3 (λ _. omega arith) (λ _. omega arith)))

pub kept-fit : (ns : List ℕ) → is_accepted ns ≡ true → Fit (kept_fields ns)
kept-fit ns e =
    let a = accepted ns e in
    let on = time_fits (get_or ns 1 0) (get_or ns 2 0) a.on in
    let off = time_fits (get_or ns 3 0) (get_or ns 4 0) a.off in
    let input = input-fits (get_or ns 5 0) in
    let week = leb-true (get_or ns 6 0) 127 a.week in
    let flags = leb-true (get_or ns 7 0) 7 a.flags in
    omega arith

pub kept-in_range : (ns : List ℕ) → is_accepted ns ≡ true → is_program (kept_fields ns) ≡ true
kept-in_range ns e = let a = accepted ns e in ap₂ ◌&&◌ a.on a.off

-- ---- what is shown

input_back : (v : ℕ) → is_input v ≡ true → input_shown (input_kept v) ≡ v
input_back v e =
    ⊎_elim (λ x. rw (eqb-true v 0 x))
    (λ d. ⊎_elim (λ x. rw (eqb-true v 1 x))
    (λ f. ⊎_elim (λ x. rw (eqb-true v 3 x)) (λ x. rw (eqb-true v 17 x)) (either (eqb v 3) _ f)) (either (eqb v 1) _ d)) (either (eqb v 0) _ e)

zeros : (s : List ℕ) → are_zero s ≡ true → s ≡ replicate (length s) 0
unfolding are_zero
zeros [] e = refl
zeros (x ∷ s) e = let b = both (eqb x 0) (are_zero s) e in ap₂ ◌∷◌ (eqb-true x 0 b.0) (zeros s b.1)

pub numbers-back : (ns : List ℕ) → length ns ≡ 16 → is_accepted ns ≡ true → numbers_of (get_or ns 0 0) (kept_fields ns) ≡ ns
numbers-back ns l e =
    rw (input_back (get_or ns 5 0) (accepted ns e).input, last, from 7 refl, from 6 refl, from 5 refl, from 4 refl, from 3 refl, from 2 refl, from 1 refl, from 0 refl)
  where
    last : replicate 8 0 ≡ drop 8 ns
    last =
        let n : length (drop 8 ns) ≡ 8 = rw length-drop (omega arith) in
        sym (zeros (drop 8 ns) (accepted ns e).reserved ∙ ap (λ (n : ℕ). replicate n 0) n)

    from : (j : ℕ) → ltb j 16 ≡ true → get_or ns j 0 ∷ drop (suc j) ns ≡ drop j ns
    from j h = sym (drop-cons ns j 0 (omega (arith, ltb-true j 16 h)))

pub shown-length : (m : List ℕ) (k : ℕ) → length (shown_program m k) ≡ 16
shown-length m k = refl

-- bytes one by one
abbrev Below : List ℕ → Type 0
Below [] = Unit
Below (b ∷ s) = (b < 256) × Below s

bytes : (s : List ℕ) → Below s → Bytes s
bytes [] h i = omega arith
bytes (b ∷ s) h zero = h.0
bytes (b ∷ s) h (suc i) = bytes s h.1 i

input-byte : (k : ℕ) → input_shown k < 256
input-byte k =
    cond-by (λ x. x < 256) (eqb k 0) 0 _ (λ _. omega arith)
    (λ _. cond-by (λ x. x < 256) (eqb k 1) 1 _ (λ _. omega arith)
    (λ _. cond-by (λ x. x < 256) (eqb k 2) 3 17 (λ _. omega arith) (λ _. omega arith)))

pub shown-bytes : (m : List ℕ) (k : ℕ) → k < 256 → Bytes (shown_program m k)
shown-bytes m k h =
    let at = program_bit k in
    bytes (shown_program m k)
    (omega (
      arith,
      get-lt m (at + 0) 5,
      get-lt m (at + 5) 6,
      get-lt m (at + 11) 5,
      get-lt m (at + 16) 6,
      input-byte (get_field m (at + 22) 2),
      get-lt m (at + 24) 7,
      get-lt m (at + 31) 3,
    ))
