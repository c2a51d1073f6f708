-- What a start on the store comes to is the answer.
use Rattle.std.proofs.lemmas.Result.{err_from_is_err_and}
use Rattle.board.proofs.CallLaws.{refused-answer, ready-answer}
use Rattle.board.proofs.board.start_answer.Goals as goal

pub returns-in_err-start_state : goal.returns-in_err-start_state
returns-in_err-start_state c =
    let p = err_from_is_err_and c.from_residual.result c.from_residual.ensures.1 in
    rw (p.1, p.2) (refused-answer _ _ _ _ _ _ c.is_identity.ensures c.start_state.ensures _ c.in_err-start_state.was)

pub returns : goal.returns
returns c = ready-answer _ _ _ _ _ _ c.is_identity.ensures c.start_state.ensures _ c.in_ok-start_state.was
