-- The list grows within its array.
use Rattle.std.proofs.Common.{◌≤◌, length}
use Rattle.power_cuts.proofs.list.put_bytes.Given as goal

abbrev pub invariant-loop-b : goal.invariant-loop-b
invariant-loop-b l = (l.at ≤ l.n) × (l.n ≤ length l.events)
