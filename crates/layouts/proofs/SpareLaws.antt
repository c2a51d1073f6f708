-- Spare bits and bytes, which no change that a request makes touches.
use mathlib.Core.Path.{◌≡◌, refl}
use mathlib.Core.List.{List}
use mathlib.Core.Logic.{inl, inr}
use Prim.Native.Nat.{ℕ, ◌+◌, ◌≤◌, ◌<◌}
use native.Mathlib.Omega.{arith}
use native.Mathlib.Decide.{dec_lt}
use lib.ListN.{get_or, set}
use lib.Seq.{get_or-set_other}
use Rattle.bitfield.specs.Field.{get_field, Apart}
use Rattle.bitfield.proofs.Laws.{get_set, byte_put}
use Rattle.store.specs.Fields.{write}
use Rattle.store.specs.Layout.{spare_bit}
use Rattle.store.proofs.StoreLaws.{RestKept, read-bytes}
use Rattle.schedule.specs.Programs.{program_bit, with_program, enable_field}
use Rattle.schedule.proofs.ProgramLaws.{program_keeps_field, program_keeps_byte, enable-keeps_field}
use Rattle.layouts.specs.Layouts.{program_spare_bit, spare_place}

-- two bits behind the fields, six behind each program, and the bytes behind the programs
pub record SpareKept (m u : List ℕ) : Type 0 where
  pub bits : get_field u spare_bit 2 ≡ get_field m spare_bit 2
  pub programs : (k : ℕ) → k < 7 → get_field u (program_spare_bit k) 6 ≡ get_field m (program_spare_bit k) 6
  pub bytes : (j : ℕ) → spare_place ≤ j → get_or u j 0 ≡ get_or m j 0

pub spare_same : (m : List ℕ) → SpareKept m m
spare_same m = record { bits = refl; programs = λ k h. refl; bytes = λ j h. refl }

pub spare_mark : (m : List ℕ) (x : ℕ) → SpareKept m (set m 0 x)
spare_mark m x =
    record {
      bits = get_set m spare_bit 2 0 x (inr (omega arith));
      programs = λ k h. get_set m (program_spare_bit k) 6 0 x (inr (omega arith));
      bytes = λ j h. get_or-set_other m 0 j x 0 (λ e. omega (arith, e, h));
    }

-- what keeps all bytes behind the tags
pub spare_rest : (m u : List ℕ) → RestKept m u → SpareKept m u
spare_rest m u r =
    record {
      bits = r.bits;
      programs = λ k h. read-bytes m u (program_spare_bit k) 6 (λ j a b. r.bytes j (omega arith));
      bytes = λ j h. r.bytes j (omega arith);
    }

-- the bits of a program, up to its spare ones, have none of a program's spare ones
spare_apart : (k j at width : ℕ) → program_bit k ≤ at → at + width ≤ program_spare_bit k → Apart at width (program_spare_bit j) 6
spare_apart k j at width l h = go (dec_lt j k)
  where
    go : Dec (j < k) → Apart at width (program_spare_bit j) 6
    go (yes x) = inr (omega arith)
    go (no x) = inl (omega arith)

pub spare_program : (m : List ℕ) (k : ℕ) (fs : List ℕ) → k < 7 → SpareKept m (with_program m k fs)
spare_program m k fs h =
    record {
      bits = program_keeps_field m k fs spare_bit 2 (inr (omega arith));
      programs = λ j _. program_keeps_field m k fs (program_spare_bit j) 6 (spare_apart k j (program_bit k) 34 (omega arith) (omega arith));
      bytes = λ j l. program_keeps_byte m k fs j (inr (omega arith));
    }

pub spare_enable : (m : List ℕ) (k enable : ℕ) → k < 7 → SpareKept m (write m (enable_field k) enable)
spare_enable m k enable h =
    record {
      bits = enable-keeps_field m k enable spare_bit 2 (inr (omega arith));
      programs = λ j _. enable-keeps_field m k enable (program_spare_bit j) 6 (spare_apart k j (program_bit k + 31) 1 (omega arith) (omega arith));
      bytes = λ j l. byte_put m (program_bit k + 31) 1 enable j (inl (omega arith));
    }
