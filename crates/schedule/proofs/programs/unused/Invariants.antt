-- After k turns the first k programs are unused ones, and every other byte is zero.
use mathlib.Core.List.{List}
use mathlib.Core.Path.{◌≡◌}
use Prim.Native.Nat.{ℕ, zero, suc, ◌+◌, ◌-◌, ◌*◌}
use borrow.Rule.Slice.PartMut.{put_mid}
use lib.ListN.{replicate}
use Rattle.schedule.specs.Programs.{unused_program}
use Rattle.schedule.proofs.programs.unused.Given as goal

abbrev pub first_unused : ℕ → List ℕ
first_unused zero = replicate 35 0
first_unused (suc k) = put_mid (5 * k) (5 * k + 5 - 5 * k) (first_unused k) unused_program

abbrev pub invariant-loop-k : goal.invariant-loop-k
invariant-loop-k l = l.area ≡ first_unused l.k
