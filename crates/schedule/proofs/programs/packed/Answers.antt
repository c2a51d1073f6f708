-- After k turns the first k programs are put.
use mathlib.Core.Path.{refl}
use native.Mathlib.Numerals.{add-one}
use native.Mathlib.Omega.{arith}
use Rattle.schedule.specs.Inner.{with_first}
use Rattle.schedule.proofs.Packing.{packed-turn}
use Rattle.schedule.proofs.programs.packed.Goals as goal

pub loop-k-init : goal.loop-k-init
unfolding with_first
loop-k-init c = c.area_of-area.ensures

pub loop-k-preserved : goal.loop-k-preserved
loop-k-preserved c = let l = c.loop-k in rw add-one (packed-turn _ _ l.k (omega arith) l.invariant refl c.put_program.ensures)
