-- The packet has as many bytes as its size says.
use Rattle.wire.specs.Judge.{is_message}
use Rattle.wire.proofs.packet.is_message.Goals as goal

pub returns : goal.returns
unfolding is_message
returns c = cc
