-- The lines stand within the buffer.
use Rattle.std.proofs.Common.{rules, length-take-le}
use Rattle.transcript.proofs.FeedLaws.{lines_fit}
use Rattle.edges.proofs.show_byte.Goals as goal

pub slice_bounds-write_all-end : goal.slice_bounds-write_all-end
slice_bounds-write_all-end g c = search lines_fit

pub slice_bounds-write_all-end-2 : goal.slice_bounds-write_all-end-2
slice_bounds-write_all-end-2 g c = search (rules, length-take-le, lines_fit)
