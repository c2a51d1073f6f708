-- What the packet did decides the answer; where it began an erase the board is made anew.
use Rattle.board.proofs.CallLaws.{acted_begun, acted_other}
use Rattle.board.proofs.board.Board.acts.Goals as goal
use Rattle.board.proofs.board.Board.acts.Goals.{in-Begun, in_default}

pub returns : goal.returns
returns c = elim c.match-planned.branch [ in-Begun w ↦ search acted_begun | in_default w ↦ search acted_other ]
