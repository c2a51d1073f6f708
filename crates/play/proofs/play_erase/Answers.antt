-- The byte's contract and that of `play` together say what demand 3 says.
use borrow.Author.Rules.{rules}
use Rattle.play.proofs.EraseLaws.{none-played, erase_played}
use Rattle.play.proofs.play_erase.Goals as goal

pub returns-in_default : goal.returns-in_default
returns-in_default c = search none-played

pub returns : goal.returns
returns c = search (rules, erase_played)
