-- The eleven bits are the hour times 64 and the minute.
use borrow.Author.Rules.{rules}
use mathlib.Core.Bool.{Bool}
use mathlib.Core.List.{List}
use mathlib.Core.Path.{◌≡◌, ◌∙◌}
use Prim.Native.Nat.{ℕ, ◌+◌, ◌*◌, ◌/◌, ◌%◌, ◌<◌}
use native.Mathlib.Omega.{arith}
use Rattle.bitfield.specs.Field.{get_field}
use Rattle.bitfield.proofs.Laws.{get-lt}
use Rattle.bitfield.proofs.Within.{get-append}
use Rattle.schedule.specs.Programs.{is_time}
use Rattle.schedule.proofs.programs.is_time_at.Goals as goal

module _ (s : List ℕ) (at v : ℕ) (read : v ≡ get_field s at 11) where
  hour-byte : v / 64 < 256
  hour-byte = omega (arith, get-lt s at 11)

  joined : v ≡ get_field s at 5 * 64 + get_field s (at + 5) 6
  joined = read ∙ get-append s at 5 6

  both_parts : {r : Bool} → r ≡ is_time (v / 64) (v % 64) → r ≡ is_time (get_field s at 5) (get_field s (at + 5) 6)
  both_parts e =
      let low = get-lt s (at + 5) 6 in
      let hour : v / 64 ≡ get_field s at 5 = omega (arith, joined) in
      let minute : v % 64 ≡ get_field s (at + 5) 6 = omega (arith, joined) in
      e ∙ rw (hour, minute)

pub overflow_cast-v : goal.overflow_cast-v
overflow_cast-v c = search (rules, hour-byte)

pub returns : goal.returns
returns c = search both_parts
