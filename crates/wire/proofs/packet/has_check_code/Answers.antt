-- The packet has as many bytes as its size says.
use Rattle.wire.specs.Judge.{has_check_code}
use Rattle.wire.proofs.packet.has_check_code.Goals as goal

pub returns : goal.returns
unfolding has_check_code
returns c = cc
