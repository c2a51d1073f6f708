-- From turn to turn the lines in the buffer end within it, and the bytes so far are counted.
use Rattle.std.proofs.Common.{length, ◌≡◌, ◌≤◌}
use Rattle.replay.specs.Sessions.{counted_on}
use Rattle.replay.proofs.give_all.Given as goal

abbrev pub invariant-loop-b : goal.invariant-loop-b
invariant-loop-b g l = (l.used ≤ length l.out) × (l.at ≡ counted_on l.before l.b-index)
