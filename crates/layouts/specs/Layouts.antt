-- The whole store (docs/RULES.md, 'Store', ST2 to ST4, and 'Schedules', S8): the mark of its layout, its 128 bytes on an unused board, all that it holds
-- in range, and what a start on a store of the older layout, which has no programs, asks and stores.
use Rattle.std.specs.Prelude.{Bool, cond, ◌&&◌, ◌||◌, List, [], ◌∷◌, ◌++◌, ℕ, ◌+◌, eqb, get_or, replicate}
use Rattle.plan.specs.Stores.{Entry, entry, range_of}
use Rattle.store.specs.Layout.{fields_in_range, rest_place}
use Rattle.schedule.specs.Programs.{program_bit, programs_in_range, unused_programs}

-- byte 0 of a store of this layout, and of one from before the programs
abbrev pub layout_mark : ℕ
layout_mark = 0x01

abbrev pub older_mark : ℕ
older_mark = 0x00

-- ---- spare, beside the two bits behind the fields

-- the six bits behind each program
abbrev pub program_spare_bit : ℕ → ℕ
program_spare_bit k = program_bit k + 34

-- all bytes from here on
abbrev pub spare_place : ℕ
spare_place = 79

-- ---- the unused board

abbrev pub unused_head : List ℕ
unused_head = layout_mark ∷ 0x8C ∷ 0x3C ∷ 0xC9 ∷ 0x91 ∷ 0x4A ∷ 0x0C ∷ 0x00 ∷ 0x87 ∷ 0x00 ∷ 0x00 ∷ 0x00 ∷ []

-- on, Saturday 1 January 2000, no tags, no times set
unfoldable pub unused_store : List ℕ
unused_store = unused_head ++ (replicate 32 0 ++ (unused_programs ++ replicate 49 0))

-- ---- in range

-- each field and each program holds what it may hold
unfoldable pub in_range : List ℕ → Bool
in_range m = fields_in_range m && programs_in_range m

-- ---- a start on either layout

abbrev pub is_layout : ℕ → Bool
is_layout mark = eqb mark older_mark || eqb mark layout_mark

-- what the layout that the mark names has is in range
unfoldable pub fits_layout : List ℕ → Bool
fits_layout m = cond (eqb (get_or m 0 0) older_mark) (fields_in_range m) (in_range m)

-- an older store gets unused programs, and then the mark of this layout
unfoldable pub conversion : List ℕ → List Entry
conversion m = cond (eqb (get_or m 0 0) older_mark) (range_of rest_place unused_programs ++ (entry 0 layout_mark ∷ [])) []
