-- Worked programs, their bytes written by hand.
use mathlib.Core.Path.{◌≡◌, refl}
use mathlib.Core.List.{List, [], ◌∷◌, ◌++◌}
use Prim.Native.Nat.{ℕ}
use lib.ListN.{take, drop, replicate}
use Rattle.bitfield.specs.Field.{get_field, bit, bit_of, put_field, set_bit, with_bit}
use Rattle.schedule.specs.Programs.{program_of, with_program, unused_program}

-- 07:00 to 23:30, input 17, WEEK 1Fh, FL 06h
abbrev pub worked : List ℕ
worked = 7 ∷ 0 ∷ 23 ∷ 30 ∷ 3 ∷ 0x1F ∷ 0x06 ∷ []

-- program 2 is bytes 54 to 58; its six spare bits stay 0 in a store of zeros
pub worked-in_zeros : take 5 (drop 54 (with_program (replicate 128 0x00) 2 worked)) ≡ 0x38 ∷ 0x17 ∷ 0x7B ∷ 0x3F ∷ 0x80 ∷ []
unfolding put_field set_bit with_bit
worked-in_zeros = refl

-- and 1 in a store of ones
pub worked-in_ones : take 5 (drop 54 (with_program (replicate 128 0xFF) 2 worked)) ≡ 0x38 ∷ 0x17 ∷ 0x7B ∷ 0x3F ∷ 0xBF ∷ []
unfolding put_field set_bit with_bit
worked-in_ones = refl

-- the five bytes of an unused program, as program 0
pub unused-decoded : program_of (replicate 44 0x00 ++ unused_program) 0 ≡ 24 ∷ 60 ∷ 24 ∷ 60 ∷ 0 ∷ 0 ∷ 0 ∷ []
unfolding get_field bit bit_of
unused-decoded = refl
