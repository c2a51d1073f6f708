-- What the two digits gave is what they mean.
use Rattle.wire.specs.Judge.{is_length}
use Rattle.wire.proofs.packet.is_length.Goals as goal

pub returns-in-Some : goal.returns-in-Some
unfolding is_length
returns-in-Some c = rw (← c.in-Some.ensures)

pub returns-in-None : goal.returns-in-None
unfolding is_length
returns-in-None c = rw (← c.in-None.ensures)
