-- Bytes given to a board one by one, and what is seen of them (docs/RULES.md, 'Demand 2', RT1).
use Rattle.std.specs.Prelude.{List, [], ◌∷◌, ℕ, zero, suc}
use Rattle.calls.specs.Board.{Identity, waiting, after}
use Rattle.calls.specs.Lists.{call, answered, seen, run}
use Rattle.packets.specs.Packets.{BoardOutcome}
use Rattle.board.specs.BoardKind.{byte, board_kind}
use Rattle.board.specs.Demand3.{Events, Trace}

-- bytes, one call each; the first is lent the buffer k, the next k + 1
unfoldable pub byte_calls : (ℕ → List ℕ) → ℕ → List ℕ → Events
byte_calls lent k [] = []
byte_calls lent k (b ∷ bs) = call (byte b) (lent k) ∷ byte_calls lent (suc k) bs

-- waiting, n times: store and lent buffers as they were
unfoldable pub waits : (ℕ → List ℕ) → List ℕ → ℕ → ℕ → Trace
waits lent m k zero = []
waits lent m k (suc n) = answered waiting (lent k) m ∷ waits lent m (suc k) n

-- what is seen of a call, and of the calls after it
abbrev pub seen_then : Identity → List ℕ → BoardOutcome → Events → Trace
seen_then i m o es = seen board_kind o m ∷ run board_kind i o.state (after o m) es
