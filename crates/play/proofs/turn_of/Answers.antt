-- The matched event has its own call.
use Rattle.play.proofs.Laws.{byte-turns, gap-turns, step-turns}
use Rattle.play.proofs.turn_of.Goals as goal

pub returns-in-Byte : goal.returns-in-Byte
returns-in-Byte c = search byte-turns

pub returns-in-Gap : goal.returns-in-Gap
returns-in-Gap c = search gap-turns

pub returns-in-Step : goal.returns-in-Step
returns-in-Step c = search step-turns
