-- Each part is written right behind the ones before it.
use borrow.Author.Rules.{rules}
use Rattle.board_c.proofs.StateLaws.{progress_put}
use Rattle.board_c.proofs.state.put_progress.Goals as goal

pub returns : goal.returns
returns c = search (rules, progress_put)
