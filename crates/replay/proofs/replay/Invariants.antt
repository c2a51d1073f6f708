-- The measure is the number of reads that can still be counted.
use Rattle.std.proofs.Common.{◌-◌}
use Rattle.replay.specs.Sessions.{largest}
use Rattle.replay.proofs.replay.Given as goal

abbrev pub decreases-loop-input : goal.decreases-loop-input
decreases-loop-input g l = largest - l.session.reads
