-- What inner functions give. No contract of an entry point cites it.
use Rattle.std.specs.Prelude.{List, ◌≡◌, ℕ, ◌+◌, ◌≤◌, length}
use Rattle.std.proofs.Math.Seq.{paste}
use Rattle.wire.specs.Packet.{over}
use Rattle.calls.specs.Board.{Answer, begun}
use Rattle.packets.specs.Packets.{BoardState}
use Rattle.transcript.specs.Transcript.{line_of, after_steps, Transcribed}
use Rattle.board.specs.View.{Result}

-- bytes written from a place on: the place behind them, and the buffer
abbrev pub Put : List ℕ → ℕ → List ℕ → ℕ → List ℕ → Type 0
Put before at bytes behind after = (behind ≡ at + length bytes) × (after ≡ paste before at bytes (length bytes))

-- the same of at most so many bytes
abbrev pub PutFew : ℕ → List ℕ → ℕ → List ℕ → ℕ → List ℕ → Type 0
PutFew most before at bytes behind after = Put before at bytes behind after × (behind ≤ at + most)

-- the line of an answer at the start of a buffer: its length, and the buffer
abbrev pub Lined : ℕ → Answer ℕ → List ℕ → ℕ → List ℕ → List ℕ → Type 0
Lined at a lent n before after = (n ≡ length (line_of at a lent)) × (after ≡ over (line_of at a lent) before)

-- all steps of an erase that has begun, and the line of the last one
abbrev pub erased_by : BoardState → List ℕ → List ℕ → Result
erased_by s m lent = after_steps 128 (record { answer = begun; state = s; store = m; buffer = lent })

abbrev pub erased_from : ℕ → BoardState → List ℕ → List ℕ → Transcribed
erased_from at s m lent =
    record { last = erased_by s m lent; lines = line_of at (erased_by s m lent).answer (erased_by s m lent).buffer }
