-- What inner functions give. No contract of an entry point cites it.
use Rattle.std.specs.Prelude.{Option, Some, None, List, [], ◌∷◌, ◌≡◌, ℕ, ◌+◌, ◌≤◌, min, length, take, drop}
use Rattle.wire.specs.Packet.{over}
use Rattle.wire.specs.Refusal.{number_of}
use Rattle.calls.specs.Board.{Identity}
use Rattle.calls.specs.Lists.{Event, call, step, cut, answered, started, unstarted, run}
use Rattle.calls.specs.Lists as lists
use Rattle.packets.specs.Packets.{BoardState}
use Rattle.board.specs.BoardKind.{Call, byte, gap, board_kind}
use Rattle.board.specs.Demand3.{Events, Trace}
use Rattle.board.specs.View.{state_of, answer_of}
use Rattle.board.specs.declared.board.Board.{Board}
use Rattle.play.specs.Play.{event_of, part_of, events_in, log_entry, Plays}
use Rattle.play.specs.declared.event.EventKind.{EventKind}
use Rattle.play.specs.declared.Turn.{Turn}
use Rattle.play.specs.declared.First.{First}

-- ---- an event

abbrev pub event_as : EventKind → List ℕ → Event Call
event_as (EventKind.Byte b) lent = call (byte b) lent
event_as EventKind.Gap lent = call gap lent
event_as EventKind.Step lent = step lent
event_as EventKind.Cut lent = cut

-- how many of the bytes left are lent to it where it wants so many
abbrev pub part_as : EventKind → ℕ → ℕ → ℕ
part_as (EventKind.Byte b) wanted left = min left wanted
part_as EventKind.Gap wanted left = min left wanted
part_as EventKind.Step wanted left = min left wanted
part_as EventKind.Cut wanted left = 0

abbrev pub number_for : EventKind → ℕ
number_for (EventKind.Byte b) = b
number_for EventKind.Gap = 256
number_for EventKind.Step = 257
number_for EventKind.Cut = 258

-- what a number is read as: the same event, with the same part of what is lent
pub record Decodes (n : ℕ) (k : EventKind) : Type 0 where
  pub event : (lent : List ℕ) → event_as k lent ≡ event_of n lent
  pub part : (wanted left : ℕ) → part_as k wanted left ≡ part_of n wanted left

-- ---- what is seen of it

abbrev pub seen_of : Turn → (m lent : List ℕ) → lists.Seen ℕ
seen_of (Turn.Answered d) m lent = answered (answer_of d.answer) lent m
seen_of (Turn.Started b) m lent = started m
seen_of (Turn.Unstarted r) m lent = unstarted (number_of r)

-- a refused start leaves no board
abbrev pub board_after : Turn → Option Board
board_after (Turn.Answered d) = Some d.board
board_after (Turn.Started b) = Some b
board_after (Turn.Unstarted r) = None

-- the events after it, on such a board; none is played without one
abbrev pub trace_on : Option Board → Identity → List ℕ → Events → Trace
trace_on (Some b) i m es = run board_kind i (state_of b) m es
trace_on None i m es = []

-- what is seen of an event, and of the events after it
abbrev pub trace_of : Turn → Identity → (m lent : List ℕ) → Events → Trace
trace_of t i m lent es = seen_of t m lent ∷ trace_on (board_after t) i m es

-- an event was played: what is seen of it, and of the events after it; a refused start leaves the store as it was
pub record Turns (t : Turn) (i : Identity) (s : BoardState) (e : Event Call) (m m' lent : List ℕ) : Type 0 where
  pub traced : (es : Events) → trace_of t i m' lent es ≡ run board_kind i s m (e ∷ es)
  pub kept : board_after t ≡ None → m' ≡ m

-- the same of a power cut, for any board before it
pub record Restarts (t : Turn) (i : Identity) (m m' : List ℕ) : Type 0 where
  pub traced : (s : BoardState) (lent : List ℕ) (es : Events) → trace_of t i m' lent es ≡ run board_kind i s m (cut ∷ es)
  pub kept : board_after t ≡ None → m' ≡ m

-- what is seen of an event stands at the start of the log
pub record Enters (t : Turn) (m log log' : List ℕ) : Type 0 where
  pub entered : (lent : List ℕ) → log' ≡ over (log_entry (seen_of t m lent)) log

-- a first event leaves room for the others: its two numbers, its part of what is lent and its entry are there
pub record LeavesRoom (f : First) (es m lent log : List ℕ) : Type 0 where
  pub two : 2 ≤ length es
  pub part : f.part ≤ length lent
  pub room : length m + 2 ≤ length log

-- The events after the first were played, on the rest of what is lent and of the log; what lies before it is as it was.
pub record PlaysRest (f : First) (i : Identity) (es m m' lent lent' log log' : List ℕ) : Type 0 where
  pub plays : Plays
      (run board_kind i (state_of f.board) m (events_in (length m) (length (drop (length m + 2) log)) (drop 2 es) (drop f.part lent)))
      m m' (drop f.part lent) (drop f.part lent') (drop (length m + 2) log) (drop (length m + 2) log')
  pub lent_kept : take f.part lent' ≡ take f.part lent
  pub log_kept : take (length m + 2) log' ≡ take (length m + 2) log

-- The first event of a list was played and entered: it leaves room for the others, and what plays the rest plays the list.
pub record GoesOn (f : First) (i : Identity) (s : BoardState) (es m m' lent lent' log log' : List ℕ) : Type 0 where
  pub leaves : LeavesRoom f es m' lent' log'
  pub goes : (m'' lent'' log'' : List ℕ) → PlaysRest f i es m' m'' lent' lent'' log' log''
      → Plays (run board_kind i s m (events_in (length m) (length log) es lent)) m m'' lent lent'' log log''

-- The first event of an encoded list, if there is one, was played and entered: where nothing comes after it the list is played, and else
-- what plays the rest plays the list.
abbrev pub PlaysFirst : Option First → Identity → BoardState → (es m m' lent lent' log log' : List ℕ) → Type 0
PlaysFirst None i s es m m' lent lent' log log' = Plays (run board_kind i s m (events_in (length m) (length log) es lent)) m m' lent lent' log log'
PlaysFirst (Some f) i s es m m' lent lent' log log' = GoesOn f i s es m m' lent lent' log log'
