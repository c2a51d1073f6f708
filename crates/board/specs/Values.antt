-- A board's value (docs/RULES.md, XB4): what a start and the calls leave in it, the bytes behind counts included.
use Rattle.std.specs.Prelude.{Bool, cond, List, [], ◌∷◌, ◌≡◌, ℕ, ◌+◌, Result, IfOk}
use Rattle.wire.specs.Refusal.{changes_nothing}
use Rattle.wire.specs.declared.refusal.Refusal.{Refusal}
use Rattle.receiver.specs.View.{empty_receiver, emptied, with_byte}
use Rattle.receiver.specs.declared.Receiver.{Receiver}
use Rattle.wire.specs.Digits.{octets}
use Rattle.calls.specs.Board as calls
use Rattle.calls.specs.Calls.{on_call, on_step, on_start}
use Rattle.calls.specs.Lists.{Event, call, step, cut}
use Rattle.packets.specs.Packets.{BoardState, BoardOutcome}
use Rattle.plan.specs.Stores.{applied}
use Rattle.board.specs.BoardKind.{Call, byte, gap, board_kind}
use Rattle.board.specs.Demand3.{Events}
use Rattle.board.specs.View.{state_of, started_of, bare}
use Rattle.board.specs.declared.board.Erase.{Erase}
use Rattle.board.specs.declared.board.Board.{Board}

-- ---- the one fresh value of an identity

-- nothing held, and nothing of a past
abbrev pub fresh_board : calls.Identity → Erase → Board
fresh_board i e =
    record {
      identity = record { id = i.id; serial = octets i.serial; model = octets i.model };
      receiver = empty_receiver;
      erase = e;
    }

-- ---- a start

abbrev pub erase_from : calls.Erase Bool → Erase
erase_from calls.idle = Erase.Idle
erase_from (calls.pending place owed) = Erase.Pending place owed

-- what stands where a start was refused (ER5): ID 0, which no call takes
abbrev pub no_board : Board
no_board = fresh_board (record { id = 0; serial = []; model = [] }) Erase.Idle

abbrev pub start_leaves : calls.Started BoardState → Board
start_leaves (calls.board s es) = fresh_board s.ident (erase_from s.erase)
start_leaves (calls.start_refused n) = no_board

-- the store that a start leaves
abbrev pub store_started : calls.Started BoardState → List ℕ → List ℕ
store_started (calls.board s es) m = applied es m
store_started (calls.start_refused n) m = m

-- a start gave an outcome: a board or a refusal, the board's value, and its stores applied
pub record Starts (r : Result Board Refusal) (m m' : List ℕ) (o : calls.Started BoardState) : Type 0 where
  pub started : started_of r ≡ bare o
  pub value : IfOk r (λ b. b ≡ start_leaves o)
  pub store : m' ≡ store_started o m

-- ---- the calls

abbrev pub with_receiver : Board → Receiver → Board
with_receiver b r = record { identity = b.identity; receiver = r; erase = b.erase }

abbrev pub with_erase : Board → Erase → Board
with_erase b e = record { identity = b.identity; receiver = b.receiver; erase = e }

-- A byte, by its answer. Where it begins an erase the board is the fresh one; with refusals 1 and 9 to 13 it is as it was; else the byte stands
-- behind the held ones, and with every answer but waiting none is held any more. No byte answers more or ended.
abbrev pub byte_leaves : Board → ℕ → BoardState → calls.Answer ℕ → Board
byte_leaves b x s calls.waiting = with_receiver b (with_byte b.receiver x (b.receiver.len + 1))
byte_leaves b x s calls.silent = with_receiver b (with_byte b.receiver x 0)
byte_leaves b x s calls.begun = fresh_board s.ident (erase_from s.erase)
byte_leaves b x s calls.more = b
byte_leaves b x s calls.ended = b
byte_leaves b x s (calls.refused n) = cond (changes_nothing n) b (with_receiver b (with_byte b.receiver x 0))
byte_leaves b x s (calls.reply n) = with_receiver b (with_byte b.receiver x 0)

-- a gap that is not refused empties the receiver; it answers waiting or a refusal
abbrev pub gap_leaves : Board → calls.Answer ℕ → Board
gap_leaves b calls.waiting = with_receiver b (emptied b.receiver)
gap_leaves b calls.silent = b
gap_leaves b calls.begun = b
gap_leaves b calls.more = b
gap_leaves b calls.ended = b
gap_leaves b (calls.refused n) = b
gap_leaves b (calls.reply n) = b

abbrev pub call_leaves : Call → Board → BoardOutcome → Board
call_leaves (byte x) b o = byte_leaves b x o.state o.answer
call_leaves gap b o = gap_leaves b o.answer

-- a step changes the erase alone
abbrev pub step_leaves : Board → BoardOutcome → Board
step_leaves b o = with_erase b (erase_from o.state.erase)

-- ---- lists of calls and power cuts

-- the value and the store after an event
unfoldable pub value_after : calls.Identity → Board → List ℕ → Event Call → Board
value_after i b m (call c lent) = call_leaves c b (on_call board_kind c (state_of b) m lent)
value_after i b m (step lent) = step_leaves b (on_step board_kind (state_of b) m lent)
value_after i b m cut = start_leaves (on_start board_kind i m)

unfoldable pub store_after : calls.Identity → Board → List ℕ → Event Call → List ℕ
store_after i b m (call c lent) = calls.after (on_call board_kind c (state_of b) m lent) m
store_after i b m (step lent) = calls.after (on_step board_kind (state_of b) m lent) m
store_after i b m cut = store_started (on_start board_kind i m) m

-- the value after a list
unfoldable pub value_after_all : calls.Identity → Board → List ℕ → Events → Board
value_after_all i b m [] = b
value_after_all i b m (e ∷ es) = value_after_all i (value_after i b m e) (store_after i b m e) es
