-- The plan is committed.
use Rattle.board.proofs.CallLaws.{step-plan_fits}
use Rattle.board.proofs.board.Board.step.Goals as goal

pub commit-requires : goal.commit-requires
commit-requires c = search step-plan_fits
