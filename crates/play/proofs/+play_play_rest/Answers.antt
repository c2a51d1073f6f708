-- The first event is played, and then the rest, which is shorter.
use Rattle.play.proofs.RunLaws.{plays-rest, rest-fewer, rest-kept}
use Rattle.play.proofs.+play_play_rest.Goals as goal

pub play-returns-in-Some : goal.play-returns-in-Some
play-returns-in-Some t c = c.in-Some.ensures.goes _ _ _ c.play_rest.ensures

pub play_rest-play-requires : goal.play_rest-play-requires
play_rest-play-requires t c = search rest-fewer

pub play_rest-shape_of-lent : goal.play_rest-shape_of-lent
play_rest-shape_of-lent t c = search rest-kept

pub play_rest-shape_of-log : goal.play_rest-shape_of-log
play_rest-shape_of-log t c = search rest-kept

pub play_rest-returns : goal.play_rest-returns
play_rest-returns t c = search plays-rest
