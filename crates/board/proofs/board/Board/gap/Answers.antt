-- The entry check refuses, or nothing is held any more.
use Rattle.board.proofs.CallLaws.{ok_is, call-refused_gives, call-pending_gives, gap-gives}
use Rattle.board.proofs.board.Board.gap.Goals as goal

pub returns-in-Ok-false : goal.returns-in-Ok-false
returns-in-Ok-false c = search (gap-gives, ok_is)

pub returns-in-Ok-true : goal.returns-in-Ok-true
returns-in-Ok-true c = search (call-pending_gives, ok_is)

pub returns-in-Err : goal.returns-in-Err
returns-in-Err c = search call-refused_gives
