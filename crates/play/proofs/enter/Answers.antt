-- The matched case of what is seen tells the entry.
use native.Mathlib.Omega.{arith}
use lib.ListN.{length-set}
use Rattle.play.proofs.Laws.{refusal-enters}
use Rattle.play.proofs.enter.Goals as goal

pub bounds-log-1 : goal.bounds-log-1
bounds-log-1 c = simp length-set (omega arith)

pub returns-in-Unstarted : goal.returns-in-Unstarted
returns-in-Unstarted c = search refusal-enters
