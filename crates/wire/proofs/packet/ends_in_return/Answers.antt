-- The packet has as many bytes as its size says.
use Rattle.wire.specs.Judge.{ends_in_return}
use Rattle.wire.proofs.packet.ends_in_return.Goals as goal

pub returns : goal.returns
unfolding ends_in_return
returns c = cc
