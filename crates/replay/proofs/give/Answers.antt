-- The new lines stand within the rest of the buffer.
use Rattle.transcript.proofs.FeedLaws.{lines-counted, lines-within}
use Rattle.replay.proofs.give.Goals as goal

pub overflow_add-result : goal.overflow_add-result
overflow_add-result c = search lines-counted

pub returns : goal.returns
returns c = search lines-within
