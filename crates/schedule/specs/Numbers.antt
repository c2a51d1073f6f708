-- A program as it is sent (docs/RULES.md, 'Schedules', S1 and S4): sixteen numbers, of which the first is the program, the next seven are its fields and
-- the last eight are reserved. INPUT is sent as 0 for none, 1, 3 or 17, and kept as 0 to 3.
use Rattle.std.specs.Prelude.{Bool, true, cond, ◌&&◌, ◌||◌, List, [], ◌∷◌, ℕ, leb, eqb, get_or, drop, replicate}
use Rattle.schedule.specs.Programs.{is_time, program_of}

abbrev pub is_input : ℕ → Bool
is_input v = eqb v 0 || (eqb v 1 || (eqb v 3 || eqb v 17))

abbrev pub input_kept : ℕ → ℕ
input_kept v = cond (eqb v 0) 0 (cond (eqb v 1) 1 (cond (eqb v 3) 2 3))

abbrev pub input_shown : ℕ → ℕ
input_shown k = cond (eqb k 0) 0 (cond (eqb k 1) 1 (cond (eqb k 2) 3 17))

-- programs 0 to 6
abbrev pub is_listed : ℕ → Bool
is_listed k = leb k 6

-- enable is 0 or 1
abbrev pub is_enable : ℕ → Bool
is_enable enable = leb enable 1

unfoldable pub are_zero : List ℕ → Bool
are_zero [] = true
are_zero (x ∷ xs) = eqb x 0 && are_zero xs

-- what a write accepts: a listed program, two times, one of the inputs, WEEK without bit 7, FL without bits 3 to 7, and zeros
unfoldable pub is_accepted : List ℕ → Bool
is_accepted ns =
    is_listed (get_or ns 0 0) && is_time (get_or ns 1 0) (get_or ns 2 0) && is_time (get_or ns 3 0) (get_or ns 4 0)
    && is_input (get_or ns 5 0) && leb (get_or ns 6 0) 127 && leb (get_or ns 7 0) 7 && are_zero (drop 8 ns)

-- the fields that are kept of an accepted program
abbrev pub kept_fields : List ℕ → List ℕ
kept_fields ns =
    get_or ns 1 0 ∷ get_or ns 2 0 ∷ get_or ns 3 0 ∷ get_or ns 4 0 ∷ input_kept (get_or ns 5 0) ∷ get_or ns 6 0 ∷ get_or ns 7 0 ∷ []

-- what is shown of program k with these fields
abbrev pub numbers_of : ℕ → List ℕ → List ℕ
numbers_of k fields =
    k ∷ get_or fields 0 0 ∷ get_or fields 1 0 ∷ get_or fields 2 0 ∷ get_or fields 3 0
    ∷ input_shown (get_or fields 4 0) ∷ get_or fields 5 0 ∷ get_or fields 6 0 ∷ replicate 8 0

-- what is shown of program k of a store
abbrev pub shown_program : List ℕ → ℕ → List ℕ
shown_program m k = numbers_of k (program_of m k)
