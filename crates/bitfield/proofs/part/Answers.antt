-- `bitfield::part` meets its contract: the shift is a division, and the divisor is the power that `two_to` gives.
use Rattle.bitfield.proofs.Bits.{positive}
use Rattle.bitfield.proofs.part.Goals as goal

pub nonzero_rem-result : goal.nonzero_rem-result
nonzero_rem-result c = search positive

pub returns : goal.returns
returns c = cc
