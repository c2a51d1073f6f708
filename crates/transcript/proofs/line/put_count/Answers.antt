-- A number has at most 20 digits.
use Rattle.transcript.proofs.DecimalLaws.{number-few}
use borrow.Author.Rules.{rules}
use Rattle.transcript.proofs.line.put_count.Goals as goal

pub returns : goal.returns
returns c = (search rules, search number-few)
