-- Weekly schedules in the store (docs/RULES.md, 'Schedules', S2 and S7): seven programs in bytes 44 to 78, five bytes each. A program is seven fields, packed
-- without gaps, most significant bit first, and six spare bits. The programs are a list of seven, each the list of its fields.
use Rattle.std.specs.Prelude.{Bool, true, ◌&&◌, ◌||◌, List, [], ◌∷◌, ◌++◌, ℕ, zero, suc, ◌+◌, ◌*◌, ltb, eqb, get_or}
use Rattle.bitfield.specs.Field.{get_field, put_field}
use Rattle.plan.specs.Stores.{Entry, copied}
use Rattle.store.specs.Fields.{Field, field, field_stores}

-- a field of a program: its first bit among the program's 40, and its width
pub record Part : Type 0 where
  pub at : ℕ
  pub width : ℕ

abbrev part : ℕ → ℕ → Part
part at width = record { at = at; width = width }

-- ON_HOUR, ON_MIN, OFF_HOUR, OFF_MIN, INPUT, WEEK, FL
abbrev pub parts : List Part
parts = part 0 5 ∷ part 5 6 ∷ part 11 5 ∷ part 16 6 ∷ part 22 2 ∷ part 24 7 ∷ part 31 3 ∷ []

-- the first bit of program k, in byte 44 + 5 * k
abbrev pub program_bit : ℕ → ℕ
program_bit k = 352 + 40 * k

-- ---- the programs of a store

abbrev pub fields_at : List ℕ → ℕ → List Part → List ℕ
fields_at m at [] = []
fields_at m at (p ∷ ps) = get_field m (at + p.at) p.width ∷ fields_at m at ps

abbrev pub program_of : List ℕ → ℕ → List ℕ
program_of m k = fields_at m (program_bit k) parts

-- the first n programs
unfoldable pub first_programs : List ℕ → ℕ → List (List ℕ)
first_programs m zero = []
first_programs m (suc n) = first_programs m n ++ (program_of m n ∷ [])

abbrev pub programs_of : List ℕ → List (List ℕ)
programs_of m = first_programs m 7

-- ---- a store with other programs

-- the fields from number j on put at their places, and every other bit as it was
abbrev pub with_fields : List ℕ → ℕ → ℕ → List Part → List ℕ → List ℕ
with_fields m at j [] fields = m
with_fields m at j (p ∷ ps) fields = with_fields (put_field m (at + p.at) p.width (get_or fields j 0)) at (suc j) ps fields

abbrev pub with_program : List ℕ → ℕ → List ℕ → List ℕ
with_program m k fields = with_fields m (program_bit k) 0 parts fields

-- the five bytes of one program
unfoldable pub program_stores : List ℕ → ℕ → List ℕ → List Entry
program_stores m k fields = copied (44 + 5 * k) (49 + 5 * k) (with_program m k fields)

-- FL bit 2, which enables a program, is the first of FL's three bits
abbrev pub enable_field : ℕ → Field
enable_field k = field (program_bit k + 31) 1 0 1 0

-- the one byte that has it
abbrev pub enable_stores : List ℕ → ℕ → ℕ → List Entry
enable_stores m k enable = field_stores m (enable_field k) enable

-- ---- what a program may hold

-- a time of day; or hour 24 with minute 60, which mean not set
abbrev pub is_time : ℕ → ℕ → Bool
is_time hour minute = (ltb hour 24 && ltb minute 60) || (eqb hour 24 && eqb minute 60)

-- two times; INPUT, WEEK and FL may hold anything
abbrev pub is_program : List ℕ → Bool
is_program fields = is_time (get_or fields 0 0) (get_or fields 1 0) && is_time (get_or fields 2 0) (get_or fields 3 0)

unfoldable pub first_in_range : List ℕ → ℕ → Bool
first_in_range m zero = true
first_in_range m (suc n) = first_in_range m n && is_program (program_of m n)

-- each of the seven
abbrev pub programs_in_range : List ℕ → Bool
programs_in_range m = first_in_range m 7

-- ---- an unused board's

-- 24:60 to 24:60, and nothing else
abbrev pub unused_program : List ℕ
unused_program = 0xC7 ∷ 0x98 ∷ 0xF0 ∷ 0x00 ∷ 0x00 ∷ []

abbrev pub repeated : ℕ → List ℕ → List ℕ
repeated zero s = []
repeated (suc n) s = s ++ repeated n s

-- bytes 44 to 78
abbrev pub unused_programs : List ℕ
unused_programs = repeated 7 unused_program
