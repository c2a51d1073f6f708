-- Each buffer lies within what is lent.
use Rattle.std.proofs.Common.{◌≤◌, length}
use Rattle.power_cuts.proofs.tell.show_part.Given as goal

abbrev pub invariant-loop-i : goal.invariant-loop-i
invariant-loop-i g l = l.from ≤ length l.lent
