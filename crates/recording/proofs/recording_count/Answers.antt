-- The counts so far and those of what is left are the counts of all, and what is held stays a proper beginning that asks for so many bytes.
use mathlib.Core.List.{List, []}
use Prim.Native.Nat.{ℕ, ◌+◌, ◌<◌}
use native.Mathlib.Omega.{arith}
use lib.ListN.{length, get_or}
use Rattle.receiver.specs.Receive.{accept}
use Rattle.receiver.proofs.Laws.{byte-accepted}
use Rattle.recording.specs.Inner.{Asking, Counts}
use Rattle.recording.proofs.Laws.{nothing-asks, nothing-played, played-on, wholes-counted, refusals-counted}
use Rattle.recording.proofs.recording_count.Invariants.{Held}
use Rattle.recording.proofs.recording_count.Goals as goal

nothing_held : (s : List ℕ) → Held s [] 7 0 0 0
nothing_held s = record { asking = nothing-asks; played = nothing-played s }

module _ (s held : List ℕ) (asked packets refused i : ℕ) (h : Held s held asked packets refused i) where
  tallied-on : i < length s → (g : List ℕ) (k p r : ℕ) → Asking g k → Counts (accept held (get_or s i 0)) packets refused g p r
      → Held s g k p r (i + 1)
  tallied-on n g k p r asks c =
      let accepted = byte-accepted held (get_or s i 0) h.asking.proper in
      record { asking = asks; played = played-on s held packets refused i h.played n g p r (rw accepted c) }

pub loop-b-init : goal.loop-b-init
loop-b-init c = search nothing_held

pub tallied-tally-requires : goal.tallied-tally-requires
tallied-tally-requires c = record { asking = search; room = (omega arith, omega arith) }

pub loop-b-preserved : goal.loop-b-preserved
loop-b-preserved c = search tallied-on

pub returns : goal.returns
returns c = search (wholes-counted, refusals-counted)
