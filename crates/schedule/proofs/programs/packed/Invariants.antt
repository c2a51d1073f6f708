-- After k turns the first k programs are put.
use mathlib.Core.Path.{◌≡◌}
use Rattle.schedule.specs.Inner.{area_of, with_first}
use Rattle.schedule.proofs.programs.packed.Given as goal

abbrev pub invariant-loop-k : goal.invariant-loop-k
invariant-loop-k l = l.area ≡ area_of (with_first l.store l.fields-items l.k)
