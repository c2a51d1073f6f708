-- The fields in the order of the definition.
use borrow.Author.Tests.{eq-eqb}
use Rattle.messages.specs.Read.{parameter_in}
use Rattle.replies.proofs.read.read_parameter.Goals as goal

pub returns : goal.returns
unfolding parameter_in
returns c = λ reply. rw (
  eq-eqb _ 16 c.if-text-ne16.false,
  ← c.in-Some.ensures,
  ← c.in-Some-two_at.ensures,
  ← c.in-Some-two_at-2.ensures,
  ← c.in-Some-flag_at.ensures,
  ← c.in-Some-four_at.ensures,
  ← c.in-Some-four_at-2.ensures,
)
