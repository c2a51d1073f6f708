-- February alone asks for the year.
use Rattle.calendar.specs.Calendar.{days_in}
use Rattle.calendar.proofs.days_in.Goals as goal

pub returns-in-2 : goal.returns-in-2
unfolding days_in
returns-in-2 c = rw (c.in-2.is, ← c.if-is_leap.ensures)

pub returns-in-2-2 : goal.returns-in-2-2
unfolding days_in
returns-in-2-2 c = rw (c.in-2.is, ← c.if-is_leap.ensures)
