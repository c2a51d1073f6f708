-- After i turns the board has made i steps.
use Prim.Native.Nat.{ℕ, ◌≤◌}
use mathlib.Core.Path.{◌≡◌}
use lib.ListN.{length}
use Rattle.board.specs.View.{gave, Result}
use Rattle.transcript.specs.Transcript.{after_steps}
use Rattle.transcript.proofs.feed.run_erase.Given as goal

-- what is left after i steps
pub record Stepped (start now : Result) (i : ℕ) : Type 0 where
  pub within : i ≤ 128
  pub store_kept : length now.store ≡ length start.store
  pub buffer_kept : length now.buffer ≡ length start.buffer
  pub stepped : now ≡ after_steps i start

abbrev pub invariant-loop : goal.invariant-loop
invariant-loop l = Stepped (gave l.initial.done l.initial.store l.initial.reply) (gave l.done l.store l.reply) l.counter
