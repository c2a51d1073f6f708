-- Encoded lists of calls and power cuts, and what is written of a run (docs/RULES.md, D3g). The run is that of demand 3.
use Rattle.std.specs.Prelude.{cond, List, [], ◌∷◌, ◌++◌, ◌≡◌, ℕ, ◌+◌, ◌-◌, ltb, eqb, length, take, drop}
use Rattle.wire.specs.Packet.{over}
use Rattle.calls.specs.Board.{Answer, waiting, silent, begun, more, ended, refused, reply}
use Rattle.calls.specs.Lists.{Event, call, step, cut, answered, started, unstarted}
use Rattle.calls.specs.Lists as lists
use Rattle.board.specs.BoardKind.{Call, byte, gap}
use Rattle.board.specs.Demand3.{Events, Trace}
use Rattle.board.specs.View.{answer_kind}

-- ---- encoded events

-- a byte, 256 for a gap, 257 for a step, any other number for a power cut
unfoldable pub event_of : ℕ → List ℕ → Event Call
event_of k lent = cond (ltb k 256) (call (byte k) lent) (cond (eqb k 256) (call gap lent) (cond (eqb k 257) (step lent) cut))

-- how many of the bytes left are lent to an event that wants so many; a cut is lent none
unfoldable pub part_of : ℕ → ℕ → ℕ → ℕ
part_of k wanted left = cond (ltb 257 k) 0 (cond (ltb left wanted) left wanted)

-- Two numbers for an event, and for each event the next part of what is lent. An event needs room in the log: two numbers and the store.
unfoldable pub events_in : (store room : ℕ) → List ℕ → List ℕ → Events
events_in store room [] lent = []
events_in store room (k ∷ []) lent = []
events_in store room (k ∷ wanted ∷ es) lent =
    cond (ltb room (store + 2)) []
    (event_of k (take (part_of k wanted (length lent)) lent)
    ∷ events_in store (room - (store + 2)) es (drop (part_of k wanted (length lent)) lent))

-- ---- what is written of a run

-- a refusal's number or a reply's length
abbrev pub number_in : Answer ℕ → ℕ
number_in waiting = 0
number_in silent = 0
number_in begun = 0
number_in more = 0
number_in ended = 0
number_in (refused n) = n
number_in (reply n) = n

-- the answer and the store after it; 7 for a start, 8 with the number for a refused one
abbrev pub log_entry : lists.Seen ℕ → List ℕ
log_entry (answered a lent m) = answer_kind a ∷ number_in a ∷ m
log_entry (started m) = 7 ∷ 0 ∷ m
log_entry (unstarted n) = 8 ∷ n ∷ []

unfoldable pub log_of : Trace → List ℕ
log_of [] = []
log_of (o ∷ os) = log_entry o ++ log_of os

-- the lent buffers as the calls left them
unfoldable pub lents_of : Trace → List ℕ
lents_of [] = []
lents_of (answered a lent m ∷ os) = lent ++ lents_of os
lents_of (started m ∷ os) = lents_of os
lents_of (unstarted n ∷ os) = lents_of os

-- the store that a run leaves
unfoldable pub left_by : Trace → List ℕ → List ℕ
left_by [] m = m
left_by (answered a lent m' ∷ os) m = left_by os m'
left_by (started m' ∷ os) m = left_by os m'
left_by (unstarted n ∷ os) m = left_by os m

-- the store, what is lent and the log after a run; what lies past them as it was
pub record Plays (t : Trace) (storeBefore store_after lentBefore lentAfter logBefore logAfter : List ℕ) : Type 0 where
  pub store : store_after ≡ left_by t storeBefore
  pub lent : lentAfter ≡ over (lents_of t) lentBefore
  pub log : logAfter ≡ over (log_of t) logBefore
