-- What the board's values in code mean, with the rules' number for each case (docs/RULES.md, CA1), and what a call gives. States show arrays
-- through their counts; what else a call leaves in a board's value stands in Values.antt.
use Rattle.std.specs.Prelude.{Bool, List, [], ◌≡◌, ℕ, Result as Returned, Ok, Err}
use Rattle.std.proofs.Math.Option.{Option, none, some}
use Rattle.wire.specs.Refusal.{number_of}
use Rattle.wire.specs.declared.refusal.Refusal.{Refusal}
use Rattle.plan.specs.Plans.{stores_of}
use Rattle.receiver.specs.View.{held_of}
use Rattle.calls.specs.Board as calls
use Rattle.actions.specs.View.{identity_of}
use Rattle.packets.specs.Packets.{BoardState, BoardOutcome}
use Rattle.board.specs.declared.board.Erase.{Erase}
use Rattle.board.specs.declared.board.Board.{Board}
use Rattle.board.specs.declared.board.Answer.{Answer}
use Rattle.board.specs.declared.board.Done.{Done}
use Rattle.board.specs.declared.board.Planned.{Planned}

-- ---- the board

abbrev pub erase_of : Erase → calls.Erase Bool
erase_of Erase.Idle = calls.idle
erase_of (Erase.Pending place owed) = calls.pending place owed

abbrev pub state_of : Board → BoardState
state_of b =
    record { ident = identity_of b.identity; held = held_of b.receiver; erase = erase_of b.erase }

-- ---- a call's answer

abbrev pub answer_of : Answer → calls.Answer ℕ
answer_of Answer.Waiting = calls.waiting
answer_of Answer.Silent = calls.silent
answer_of Answer.Begun = calls.begun
answer_of Answer.More = calls.more
answer_of Answer.Ended = calls.ended
answer_of (Answer.Refused r) = calls.refused (number_of r)
answer_of (Answer.Reply n) = calls.reply n

-- the number of an answer's kind, where it is told as a number
abbrev pub answer_kind : calls.Answer ℕ → ℕ
answer_kind calls.waiting = 0
answer_kind calls.silent = 1
answer_kind calls.begun = 2
answer_kind calls.more = 3
answer_kind calls.ended = 4
answer_kind (calls.refused n) = 5
answer_kind (calls.reply n) = 6

-- ---- what a call gives

-- answer, board, store and lent buffer
pub record Result : Type 0 where
  pub answer : calls.Answer ℕ
  pub state : BoardState
  pub store : List ℕ
  pub buffer : List ℕ

abbrev pub result : BoardOutcome → List ℕ → Result
result o m = record { answer = o.answer; state = o.state; store = calls.after o m; buffer = o.buffer }

abbrev pub gave : Done → List ℕ → List ℕ → Result
gave d m lent = record { answer = answer_of d.answer; state = state_of d.board; store = m; buffer = lent }

-- a call gave an outcome: its answer and its state, its stores applied and its lent buffer; and the board's value is what the outcome leaves
pub record Gives (d : Done) (m m' lent' : List ℕ) (leaves : BoardOutcome → Board) (o : BoardOutcome) : Type 0 where
  pub result : gave d m' lent' ≡ result o m
  pub value : d.board ≡ leaves o

-- what is planned: nothing is stored yet, and the plan is the outcome's own list
abbrev pub planned_outcome : Planned → List ℕ → BoardOutcome
planned_outcome p lent =
    record { answer = answer_of p.answer; state = state_of p.board; stores = stores_of p.plan; buffer = lent }

pub record Plans (p : Planned) (lent' : List ℕ) (leaves : BoardOutcome → Board) (o : BoardOutcome) : Type 0 where
  pub outcome : planned_outcome p lent' ≡ o
  pub value : p.board ≡ leaves o

-- ---- a start

abbrev pub given_identity : ℕ → List ℕ → List ℕ → calls.Identity
given_identity id serial model = record { id = id; serial = serial; model = model }

abbrev pub started_of : Returned Board Refusal → calls.Started BoardState
started_of (Ok b) = calls.board (state_of b) []
started_of (Err r) = calls.start_refused (number_of r)

-- a start but for what it stores
abbrev pub bare : calls.Started BoardState → calls.Started BoardState
bare (calls.board s es) = calls.board s []
bare (calls.start_refused n) = calls.start_refused n

-- the number that a start refuses with
abbrev pub start_refusal_in : calls.Started BoardState → Option ℕ
start_refusal_in (calls.board s es) = none
start_refusal_in (calls.start_refused n) = some n

abbrev pub start_refusal_of : Returned (Unit {0}) Refusal → Option ℕ
start_refusal_of (Ok u) = none
start_refusal_of (Err r) = some (number_of r)
