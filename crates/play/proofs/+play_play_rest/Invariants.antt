-- The first event is played, and then the rest, a list that is shorter by two; the call that plays the rest is below the one that plays the list.
use Rattle.std.proofs.Common.{◌+◌, ◌*◌, length}
use Rattle.play.proofs.+play_play_rest.Given as goal

abbrev pub decreases-play : goal.decreases-play
decreases-play l = 2 * length l.events.now + 1

abbrev pub decreases-play_rest : goal.decreases-play_rest
decreases-play_rest l = 2 * length l.events.now
