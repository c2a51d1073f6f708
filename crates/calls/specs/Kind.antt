-- A kind of board: what differs between boards, and nothing else. What all have in common (docs/RULES.md, 'Calls' and 'Erase and start')
-- is said over it.
use Rattle.std.specs.Prelude.{Bool, List, ℕ}
use Rattle.calls.specs.Board.{Identity, Answer, State, Outcome, Started}

pub record Kind : Type 1 where
  -- what the receiver holds, to whom a reply is owed, what a reply answer tells, and every call but a step and a start
  pub Held : Type 0
  pub Owed : Type 0
  pub Sent : Type 0
  pub Call : Type 0
  -- an identity in range
  pub is_identity : Identity → Bool
  -- the 128 bytes of an unused board
  pub unused : List ℕ
  -- each field of a store in range
  pub in_range : List ℕ → Bool
  -- nothing held, and held bytes that are a proper beginning
  pub nothing : Held
  pub is_nothing : Held → Bool
  pub is_proper : Held → Bool
  -- no reply is owed
  pub none_owed : Owed
  -- what the last step of an erase answers, and what it writes into the lent buffer
  pub last_answer : Identity → Owed → Answer Sent
  pub last_buffer : Identity → Owed → List ℕ → List ℕ
  -- whether a call lends a buffer that must have 64 bytes
  pub lends : Call → Bool
  -- what a call does to a sound board with no erase pending
  pub does : Call → State Held Owed → List ℕ → List ℕ → Outcome (State Held Owed) Sent
  -- to whom the reply is owed where that call begins an erase
  pub owes : Call → State Held Owed → Owed
  -- a start on a store that has not 128 bytes, or whose mark is not E7h
  pub start_other : Identity → List ℕ → Started (State Held Owed)
