-- The counts so far and those of what is left are the counts of all, and what is held stays a proper beginning that asks for so many bytes.
use mathlib.Core.List.{List}
use Prim.Native.Nat.{ℕ}
use lib.ListN.{take}
use Rattle.recording.specs.Inner.{Asking}
use Rattle.recording.proofs.Laws.{Played}
use Rattle.recording.proofs.recording_count.Given as goal

pub record Held (s held : List ℕ) (asked packets refused i : ℕ) : Type 0 where
  pub asking : Asking held asked
  pub played : Played s held packets refused i

abbrev pub invariant-loop-b : goal.invariant-loop-b
invariant-loop-b l = Held l.recording (take l.tally.len l.held) l.tally.asked l.tally.packets l.tally.refusals l.b-index
