-- The plan is committed.
use Rattle.board.proofs.CallLaws.{call-plan_fits}
use Rattle.board.proofs.board.Board.byte.Goals as goal

pub commit-requires : goal.commit-requires
commit-requires c = search call-plan_fits
