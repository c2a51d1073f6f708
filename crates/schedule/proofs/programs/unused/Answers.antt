-- A turn more writes one program more.
use native.Mathlib.Numerals.{add-one}
use Rattle.schedule.proofs.programs.unused.Goals as goal

pub loop-k-preserved : goal.loop-k-preserved
loop-k-preserved c = let l = c.loop-k in rw (add-one, c.copy_from_slice.ensures.after, l.invariant)
