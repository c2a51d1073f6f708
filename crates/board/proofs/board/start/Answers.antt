-- What a start on the store comes to decides whether a board is given.
use Rattle.std.proofs.lemmas.Result.{err_from_is_err_and}
use Rattle.board.proofs.CallLaws.{sized, convertible, committable, refused-start, ready-start}
use Rattle.board.proofs.board.start.Goals as goal

pub returns-in_err-erase : goal.returns-in_err-erase
returns-in_err-erase c =
    let p = err_from_is_err_and c.from_residual.result c.from_residual.ensures.1 in
    rw (p.1, p.2) (refused-start c.args.id c.args.serial.now c.args.model.now _ _ _ c.is_identity.ensures c.start_state.ensures _ c.in_err-erase.was)

pub converted-plan-requires : goal.converted-plan-requires
converted-plan-requires c = (
  sized c.args.id c.args.serial.now c.args.model.now _ _ _ c.is_identity.ensures c.start_state.ensures _ c.in_ok-erase.was,
  convertible c.args.id c.args.serial.now c.args.model.now _ _ _ c.is_identity.ensures c.start_state.ensures _ c.in_ok-erase.was,
)

pub commit-requires : goal.commit-requires
commit-requires c =
    committable c.args.id c.args.serial.now c.args.model.now _ _ _ c.is_identity.ensures c.start_state.ensures _ c.in_ok-erase.was c.converted-plan.ensures

pub returns : goal.returns
returns c =
    ready-start c.args.id c.args.serial.now c.args.model.now _ _ _ c.is_identity.ensures c.start_state.ensures _ _ _
    c.fresh.ensures c.commit.ensures c.converted-plan.ensures c.in_ok-erase.was
