-- The entry check refuses, or a pending erase goes on.
use borrow.Author.Rules.{rules}
use Rattle.calls.specs.Calls.{is_short}
use Rattle.board.proofs.CallLaws.{ok_is, step-refused_plans, step_idle_plans, step_erased_plans, erasing_behind}
use Rattle.board.proofs.board.Board.plan_step.Goals as goal

pub erases-requires : goal.erases-requires
erases-requires c = search (rules, erasing_behind, ok_is)

pub returns-in-Ok-true : goal.returns-in-Ok-true
unfolding is_short
returns-in-Ok-true c = search (step_erased_plans, ok_is)

pub returns-in-Ok-false : goal.returns-in-Ok-false
unfolding is_short
returns-in-Ok-false c = search (step_idle_plans, ok_is)

pub returns-in-Err : goal.returns-in-Err
unfolding is_short
returns-in-Err c = search step-refused_plans
