-- The head is stored in zeros, and the programs behind it.
use Rattle.layouts.specs.Layouts.{unused_store}
use Rattle.layouts.proofs.unused.Goals as goal

pub returns : goal.returns
unfolding unused_store
returns c = rw (c.copy_from_slice.ensures.after, c.copy_from_slice-2.ensures.after, c.unused-programs.ensures)
