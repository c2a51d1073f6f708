-- The entry check of this board's own soundness and erase.
use borrow.Author.Rules.{rules}
use Rattle.board.proofs.CallLaws.{entry-told}
use Rattle.board.proofs.board.Board.entry_check.Goals as goal

pub returns : goal.returns
returns c = search (rules, entry-told)
