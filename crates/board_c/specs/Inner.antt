-- What inner functions give. No contract of an entry point cites it.
use Rattle.std.specs.Prelude.{true, false, List, [], ◌∷◌, ◌++◌, ◌≡◌, ℕ, length}
use Rattle.actions.specs.declared.Identity.{Identity}
use Rattle.receiver.specs.declared.Receiver.{Receiver}
use Rattle.calls.specs.Board.{Answer, place_of}
use Rattle.board.specs.View.{erase_of, state_of, answer_of, answer_kind}
use Rattle.board.specs.declared.board.Board.{Board}
use Rattle.board.specs.declared.board.Done.{Done}
use Rattle.board.specs.declared.board.Erase.{Erase}
use Rattle.board_c.specs.State.{counted_item, erase_kind, state_bytes, state_in}
use Rattle.board_c.specs.Exports.{refusal_as, length_as, keeps_all}

-- ---- the two parts of a state's bytes

-- the first 35: ID, serial number and model
abbrev pub identity_part : Identity → List ℕ
identity_part n = n.id ∷ (counted_item n.serial ++ counted_item n.model)

-- the other 76: the held bytes behind their count, and the erase
abbrev pub progress_part : Receiver → Erase → List ℕ
progress_part r erase = r.len ∷ (r.held ++ (erase_kind erase ∷ place_of (erase_of erase) ∷ []))

-- ---- an answer told

-- the place for a refusal, and the place for a reply's length
pub record Places (a : Answer ℕ) (refusal refusal' size size' : ℕ) : Type 0 where
  pub refused : refusal' ≡ refusal_as a refusal
  pub replied : size' ≡ length_as a size

-- the state is the next board's, where it has its size, but where nothing changes
pub record Saves (a : Answer ℕ) (b : Board) (s s' : List ℕ) : Type 0 where
  pub kept : keeps_all a ≡ true → s' ≡ s
  pub bytes : keeps_all a ≡ false → length s ≡ 111 → s' ≡ state_bytes b
  pub shown : keeps_all a ≡ false → length s ≡ 111 → state_in s' ≡ state_of b

-- the result, the places, and the state
pub record AnswerTold (d : Done) (r refusal refusal' size size' : ℕ) (s s' : List ℕ) : Type 0 where
  pub result : r ≡ answer_kind (answer_of d.answer)
  pub places : Places (answer_of d.answer) refusal refusal' size size'
  pub state : Saves (answer_of d.answer) d.board s s'
