-- What inner functions ask. No contract of an entry point cites it.
use Rattle.std.specs.Prelude.{List, [], ◌∷◌, ℕ, zero, suc, ◌+◌, ◌%◌, ◌^◌, ◌≤◌, ◌<◌, get_or, take, drop}
use Rattle.schedule.specs.Programs.{Part, parts, with_program}

-- bytes 44 to 78
unfoldable pub area_of : List ℕ → List ℕ
area_of m = take 35 (drop 44 m)

-- a store with the first n of some programs, and with all seven
unfoldable pub with_first : List ℕ → List (List ℕ) → ℕ → List ℕ
with_first m programs zero = m
with_first m programs (suc n) = with_program (with_first m programs n) n (get_or programs n [])

abbrev pub with_programs : List ℕ → List (List ℕ) → List ℕ
with_programs m programs = with_first m programs 7

-- some bits of the 35 bytes, within two of them
pub record InArea (at width : ℕ) : Type 0 where
  pub some : 0 < width
  pub two : at % 8 + width ≤ 16
  pub within : at + width ≤ 280

-- values that their fields can hold
abbrev pub FitFrom : ℕ → List Part → List ℕ → Type 0
FitFrom j [] fields = Unit {0}
FitFrom j (p ∷ ps) fields = (get_or fields j 0 < 2 ^ p.width) × FitFrom (suc j) ps fields

abbrev pub Fit : List ℕ → Type 0
Fit fields = FitFrom 0 parts fields

abbrev pub AllFit : List (List ℕ) → Type 0
AllFit programs = (k : ℕ) → k < 7 → Fit (get_or programs k [])
