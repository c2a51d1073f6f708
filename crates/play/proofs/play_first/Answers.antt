-- With no event or no room nothing is played.
use Rattle.play.proofs.RunLaws.{no_event, no_room, room-left}
use borrow.Author.Rules.{rules}
use Rattle.play.proofs.play_first.Goals as goal

pub returns-then-events-lt2 : goal.returns-then-events-lt2
returns-then-events-lt2 c = search no_event

pub returns-then-is_full : goal.returns-then-is_full
returns-then-is_full c = search no_room

pub play_event-requires : goal.play_event-requires
play_event-requires c = search (rules, room-left)
