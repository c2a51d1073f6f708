-- What the two digits gave is what they mean.
use Rattle.wire.specs.Packet.{size}
use Rattle.wire.proofs.packet.size.Goals as goal

pub returns-in-Some : goal.returns-in-Some
unfolding size
returns-in-Some c = rw (← c.in-Some.ensures)

pub returns-in-None : goal.returns-in-None
unfolding size
returns-in-None c = rw (← c.in-None.ensures)
