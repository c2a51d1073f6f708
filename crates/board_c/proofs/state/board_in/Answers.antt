-- Each part is read from its place.
use Rattle.board_c.proofs.StateLaws.{board-read}
use Rattle.board_c.proofs.state.board_in.Goals as goal

pub returns : goal.returns
returns c = search board-read
