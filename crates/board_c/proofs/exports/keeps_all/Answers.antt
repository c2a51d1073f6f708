-- A refusal is asked for its number.
use Rattle.board_c.proofs.AnswerLaws.{refusal-kept}
use Rattle.board_c.proofs.exports.keeps_all.Goals as goal

pub returns : goal.returns
returns c = search refusal-kept
