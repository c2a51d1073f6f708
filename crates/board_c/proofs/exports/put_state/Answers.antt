-- What is written is read back as the board.
use Rattle.board_c.proofs.StateLaws.{sized}
use Rattle.board_c.proofs.AnswerLaws.{state-put}
use borrow.Author.Rules.{rules}
use Rattle.board_c.proofs.exports.put_state.Goals as goal

pub returns : goal.returns
returns c = (search rules, search (state-put, sized))
