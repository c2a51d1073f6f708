-- The matched number tells the event.
use native.Mathlib.Omega.{arith}
use Rattle.play.proofs.Laws.{byte-decodes, gap-decodes, step-decodes, cut-decodes}
use Rattle.play.proofs.event.EventKindFromU16.from.Goals as goal

pub returns-in-256 : goal.returns-in-256
returns-in-256 c = gap-decodes _ (omega arith)

pub returns-in-257 : goal.returns-in-257
returns-in-257 c = step-decodes _ (omega arith)

pub returns-in-0-to-255 : goal.returns-in-0-to-255
returns-in-0-to-255 c = byte-decodes _ (omega arith)

pub returns-in_default : goal.returns-in_default
returns-in_default c = cut-decodes _ (omega arith)
