-- The list grows within its array.
use Rattle.std.proofs.Common.{◌≤◌, length}
use Rattle.power_cuts.proofs.list.put_steps.Given as goal

abbrev pub invariant-loop : goal.invariant-loop
invariant-loop l = (l.at ≤ l.n) × (l.n ≤ length l.events)
