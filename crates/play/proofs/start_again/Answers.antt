-- A board, or the refusal.
use Rattle.play.proofs.Laws.{started-again, refused-again}
use Rattle.play.proofs.start_again.Goals as goal

pub returns-in-Ok : goal.returns-in-Ok
returns-in-Ok c = search started-again

pub returns-in-Err : goal.returns-in-Err
returns-in-Err c = search refused-again
