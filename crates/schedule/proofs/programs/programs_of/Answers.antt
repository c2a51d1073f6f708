-- After k turns the first k rows are the first k programs.
use mathlib.Core.Path.{◌≡◌, refl}
use native.Mathlib.Numerals.{add-one}
use native.Mathlib.Omega.{arith}
use lib.ListN.{length-set}
use Rattle.schedule.specs.Programs.{first_programs}
use Rattle.schedule.proofs.Packing.{programs-turn, programs-end}
use Rattle.schedule.proofs.programs.programs_of.Goals as goal

pub loop-k-init : goal.loop-k-init
unfolding first_programs
loop-k-init c = (refl, refl)

pub loop-k-preserved : goal.loop-k-preserved
loop-k-preserved c =
    let l = c.loop-k in (
      simp length-set l.invariant.0,
      rw (add-one, c.program_at.ensures) (programs-turn _ l.programs l.k (omega arith) l.invariant.1),
    )

pub returns : goal.returns
returns c =
    let l = c.loop-k in
    let e : l.k ≡ 7 = omega arith in
    programs-end _ l.programs l.invariant.0 (rw e at l.invariant.1)
