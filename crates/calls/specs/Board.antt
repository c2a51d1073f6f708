-- What every kind of board shares (docs/RULES.md, 'Calls', CA1): identity, answers, the state of an erase, what a call leaves.
use Rattle.std.specs.Prelude.{Bool, true, false, List, ℕ}
use Rattle.plan.specs.Stores.{Entry, applied}

-- given at start, not stored
pub record Identity : Type 0 where
  pub id : ℕ
  pub serial : List ℕ
  pub model : List ℕ

-- the answers: waiting, acted silently, erase begun, more to erase, erase ended silently, refused with a number,
-- reply with what is told of it (its length)
pub data Answer (Sent : Type 0) : Type 0 where
  waiting silent begun more ended : Answer Sent
  refused : ℕ → Answer Sent
  reply : Sent → Answer Sent

-- no erase pending; or one, with its next place p and to whom its last step owes the reply
pub data Erase (Owed : Type 0) : Type 0 where
  idle : Erase Owed
  pending : ℕ → Owed → Erase Owed

abbrev pub is_pending : {Owed : Type 0} → Erase Owed → Bool
is_pending idle = false
is_pending (pending p owed) = true

-- its next place; 0 where none is pending
abbrev pub place_of : {Owed : Type 0} → Erase Owed → ℕ
place_of idle = 0
place_of (pending p owed) = p

-- to whom its reply is owed; as given where none is pending
abbrev pub owed_of : {Owed : Type 0} → Owed → Erase Owed → Owed
owed_of none idle = none
owed_of none (pending p owed) = owed

-- a board: its identity, the bytes its receiver holds, its erase
pub record State (Held Owed : Type 0) : Type 0 where
  pub ident : Identity
  pub held : Held
  pub erase : Erase Owed

-- what a call leaves: its answer, the board, the bytes it stores, in order, and the lent buffer
pub record Outcome (S Sent : Type 0) : Type 0 where
  pub answer : Answer Sent
  pub state : S
  pub stores : List Entry
  pub buffer : List ℕ

-- a start gives a board and the bytes it stores, or no board and a refusal
pub data Started (S : Type 0) : Type 0 where
  board : S → List Entry → Started S
  start_refused : ℕ → Started S

-- the store after a call
abbrev pub after : {S Sent : Type 0} → Outcome S Sent → List ℕ → List ℕ
after o m = applied o.stores m
