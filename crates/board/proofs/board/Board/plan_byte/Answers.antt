-- The entry check refuses, or the byte is accepted.
use borrow.Author.Rules.{rules}
use Rattle.calls.specs.Calls.{is_short}
use Rattle.board.proofs.CallLaws.{ok_is, call-refused_plans, call-pending_plans, call-done_plans, accepting}
use Rattle.board.proofs.board.Board.plan_byte.Goals as goal

pub accepts-requires : goal.accepts-requires
accepts-requires c = search (rules, accepting, ok_is)

pub returns-in-Ok-false : goal.returns-in-Ok-false
unfolding is_short
returns-in-Ok-false c = search (call-done_plans, ok_is)

pub returns-in-Ok-true : goal.returns-in-Ok-true
unfolding is_short
returns-in-Ok-true c = search (call-pending_plans, ok_is)

pub returns-in-Err : goal.returns-in-Err
unfolding is_short
returns-in-Err c = search call-refused_plans
