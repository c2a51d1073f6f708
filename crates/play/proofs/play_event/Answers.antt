-- The event is played on its part of what is lent, and entered.
use Rattle.play.proofs.RunLaws.{plays-last, plays-on}
use Rattle.play.proofs.play_event.Goals as goal

pub returns-in-None : goal.returns-in-None
returns-in-None c = search plays-last

pub returns-in-Some : goal.returns-in-Some
returns-in-Some c = search plays-on
