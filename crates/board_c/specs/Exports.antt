-- The board's calls for C (docs/RULES.md, XB1): what each gives as numbers, and what it leaves in the lent state, store, buffer and places.
use Rattle.std.specs.Prelude.{Bool, false, cond, List, [], ◌∷◌, ◌≡◌, ℕ, eqb, length}
use Rattle.wire.specs.Refusal.{changes_nothing}
use Rattle.calls.specs.Board.{Identity, Answer, waiting, silent, begun, more, ended, refused, reply, Started, board, start_refused, after}
use Rattle.packets.specs.Packets.{BoardState, BoardOutcome}
use Rattle.calls.specs.Calls.{on_call, on_step, on_start}
use Rattle.calls.specs.Lists.{Event, call, step, cut}
use Rattle.board.specs.BoardKind.{Call, board_kind}
use Rattle.board.specs.Demand3.{Events}
use Rattle.board.specs.View.{answer_kind}
use Rattle.board.specs.Values.{start_leaves, store_started, call_leaves, step_leaves}
use Rattle.board.specs.declared.board.Board.{Board}
use Rattle.layouts.specs.Layouts.{unused_store}
use Rattle.board_c.specs.State.{board_in, state_bytes, state_in}

-- the place for a refusal, and the place for a reply's length: each written where there is one, else as it was
abbrev pub refusal_as : Answer ℕ → ℕ → ℕ
refusal_as waiting before = before
refusal_as silent before = before
refusal_as begun before = before
refusal_as more before = before
refusal_as ended before = before
refusal_as (refused n) before = n
refusal_as (reply n) before = before

abbrev pub length_as : Answer ℕ → ℕ → ℕ
length_as waiting before = before
length_as silent before = before
length_as begun before = before
length_as more before = before
length_as ended before = before
length_as (refused n) before = before
length_as (reply n) before = n

-- refusals 1 and 9 to 13 change nothing at all
abbrev pub keeps_all : Answer ℕ → Bool
keeps_all waiting = false
keeps_all silent = false
keeps_all begun = false
keeps_all more = false
keeps_all ended = false
keeps_all (refused n) = changes_nothing n
keeps_all (reply n) = false

-- the state's bytes after a call: as they were where nothing changes, else those of the value that is left
abbrev pub state_left : (BoardOutcome → Board) → BoardOutcome → List ℕ → List ℕ
state_left leaves o before = cond (keeps_all o.answer) before (state_bytes (leaves o))

-- the result, the place for a refusal, and the state: it shows that of the outcome, and its bytes are those that are left
pub record Leaves (leaves : BoardOutcome → Board) (o : BoardOutcome) (r : ℕ) (refusalBefore refusalAfter : ℕ) (stateBefore state_after : List ℕ) : Type 0 where
  pub result : r ≡ answer_kind o.answer
  pub refusal : refusalAfter ≡ refusal_as o.answer refusalBefore
  pub state : state_in state_after ≡ o.state
  pub bytes : state_after ≡ state_left leaves o stateBefore

-- the same, with the store, the lent buffer and the place for a reply's length
pub record Answers (leaves : BoardOutcome → Board) (o : BoardOutcome) (r : ℕ) (refusalBefore refusalAfter lengthBefore lengthAfter : ℕ)
    (stateBefore state_after storeBefore store_after bufferAfter : List ℕ) : Type 0 where
  pub left : Leaves leaves o r refusalBefore refusalAfter stateBefore state_after
  pub count : lengthAfter ≡ length_as o.answer lengthBefore
  pub stored : store_after ≡ after o storeBefore
  pub buffer : bufferAfter ≡ o.buffer

-- ---- a start: 0, or the refusal; a state buffer of another size is refused with 12, where all else was good

unfoldable pub start_in : ℕ → Started BoardState → Started BoardState
start_in size (board s es) = cond (eqb size 111) (board s es) (start_refused 12)
start_in size (start_refused n) = start_refused n

abbrev pub start_result : Started BoardState → ℕ
start_result (board s es) = 0
start_result (start_refused n) = n

-- the state's bytes: those of the board's fresh value, or as they were
abbrev pub state_started : Started BoardState → List ℕ → List ℕ
state_started (board s es) before = state_bytes (start_leaves (board s es))
state_started (start_refused n) before = before

abbrev pub StateShown : Started BoardState → List ℕ → Type 0
StateShown (board s es) after = state_in after ≡ s
StateShown (start_refused n) after = Unit {0}

pub record Starts (o : Started BoardState) (r : ℕ) (stateBefore state_after storeBefore store_after : List ℕ) : Type 0 where
  pub result : r ≡ start_result o
  pub state : StateShown o state_after
  pub bytes : state_after ≡ state_started o stateBefore
  pub stored : store_after ≡ store_started o storeBefore

-- ---- the state's bytes after lists of calls and power cuts

unfoldable pub state_after : Identity → List ℕ → List ℕ → Event Call → List ℕ
state_after i s m (call c lent) = state_left (call_leaves c (board_in s)) (on_call board_kind c (state_in s) m lent) s
state_after i s m (step lent) = state_left (step_leaves (board_in s)) (on_step board_kind (state_in s) m lent) s
state_after i s m cut = state_started (start_in (length s) (on_start board_kind i m)) s

-- the store after it; a refused start stores nothing
unfoldable pub stored_after : Identity → List ℕ → List ℕ → Event Call → List ℕ
stored_after i s m (call c lent) = after (on_call board_kind c (state_in s) m lent) m
stored_after i s m (step lent) = after (on_step board_kind (state_in s) m lent) m
stored_after i s m cut = store_started (start_in (length s) (on_start board_kind i m)) m

unfoldable pub state_after_all : Identity → List ℕ → List ℕ → Events → List ℕ
state_after_all i s m [] = s
state_after_all i s m (e ∷ es) = state_after_all i (state_after i s m e) (stored_after i s m e) es

-- ---- the unused store: 0, or 11 where the slice has not 128 bytes

unfoldable pub unused_result : ℕ → ℕ
unused_result size = cond (eqb size 128) 0 11

unfoldable pub unused_in : List ℕ → List ℕ
unused_in before = cond (eqb (length before) 128) unused_store before
