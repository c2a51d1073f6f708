-- After k turns the first k rows are the first k programs.
use mathlib.Core.Path.{◌≡◌}
use lib.ListN.{length, take}
use Rattle.schedule.specs.Programs.{first_programs}
use Rattle.schedule.proofs.programs.programs_of.Given as goal

abbrev pub invariant-loop-k : goal.invariant-loop-k
invariant-loop-k l = (length l.programs ≡ 7) × (take l.k l.programs ≡ first_programs l.store l.k)
