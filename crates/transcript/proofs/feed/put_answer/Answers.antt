-- A line has at most 159 bytes.
use Rattle.transcript.proofs.LineLaws.{line_most}
use borrow.Author.Rules.{rules}
use Rattle.transcript.proofs.feed.put_answer.Goals as goal

pub returns : goal.returns
returns c = (search rules, search line_most)
