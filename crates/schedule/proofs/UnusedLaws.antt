-- The unused bytes, computed: each of the seven programs is not set, and nothing else is in them.
use mathlib.Core.Path.{◌≡◌, refl, sym, ap, ◌∙◌}
use mathlib.Core.Bool.{true}
use mathlib.Core.List.{List, [], ◌∷◌, ◌++◌}
use Prim.Native.Nat.{ℕ, ◌+◌, ◌-◌, ◌≤◌, ◌<◌}
use native.Mathlib.Omega.{arith}
use lib.ListN.{length, get_or, take, drop, replicate, get_or-replicate}
use lib.Seq.{get_or-take, get_or-drop}
use Rattle.bitfield.specs.Field.{get_field, bit, bit_of}
use Rattle.schedule.specs.Programs.{program_of, first_programs, programs_of, programs_in_range, is_program, unused_programs}
use Rattle.schedule.proofs.ProgramLaws.{program_same, programs-at, in_range-all}

pub unused-length : length unused_programs ≡ 35
unused-length = refl

-- two stores with the same bytes 44 to 78, taken at once or one by one
area_same : (u m : List ℕ) → take 35 (drop 44 u) ≡ take 35 (drop 44 m) → (j : ℕ) → 44 ≤ j → j < 79 → get_or u j 0 ≡ get_or m j 0
area_same u m e j l h =
    ap (λ (n : ℕ). get_or u n 0) q
    ∙ sym (at u) ∙ ap (λ (s : List ℕ). get_or s (j - 44) 0) e ∙ at m
    ∙ ap (λ (n : ℕ). get_or m n 0) (sym q)
  where
    q : j ≡ 44 + (j - 44)
    q = omega arith

    at : (s : List ℕ) → get_or (take 35 (drop 44 s)) (j - 44) 0 ≡ get_or s (44 + (j - 44)) 0
    at s = get_or-take 35 (drop 44 s) (j - 44) 0 (omega arith) ∙ get_or-drop 44 s (j - 44) 0

-- a store with nothing else in it
abbrev sample : List ℕ
sample = replicate 44 0 ++ unused_programs

abbrev not_set : List ℕ
not_set = 24 ∷ 60 ∷ 24 ∷ 60 ∷ 0 ∷ 0 ∷ 0 ∷ []

sample_programs : programs_of sample ≡ replicate 7 not_set
unfolding first_programs get_field bit bit_of
sample_programs = refl

-- 24:60 to 24:60, no input, no day, not enabled
pub unused-shown : (m : List ℕ) → take 35 (drop 44 m) ≡ unused_programs → (k : ℕ) → k < 7
    → program_of m k ≡ 24 ∷ 60 ∷ 24 ∷ 60 ∷ 0 ∷ 0 ∷ 0 ∷ []
unused-shown m e k h =
    program_same m sample (area_same m sample e) k h
    ∙ sym (programs-at sample k h) ∙ ap (λ (s : List (List ℕ)). get_or s k []) sample_programs ∙ get_or-replicate 7 k not_set [] h

pub unused_in-range : (m : List ℕ) → take 35 (drop 44 m) ≡ unused_programs → programs_in_range m ≡ true
unused_in-range m e = in_range-all m (λ k h. ap is_program (unused-shown m e k h))
