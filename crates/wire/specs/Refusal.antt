-- Refusals (docs/RULES.md, the table in 'Calls'): the number of each case, and which change nothing.
use Rattle.std.specs.Prelude.{Bool, ◌||◌, ℕ, eqb, leb}
use Rattle.wire.specs.declared.refusal.Refusal.{Refusal}

abbrev pub number_of : Refusal → ℕ
number_of Refusal.NoStart = 1
number_of Refusal.Header = 2
number_of Refusal.MessageType = 3
number_of Refusal.Length = 4
number_of Refusal.NoReturn = 5
number_of Refusal.CheckCode = 6
number_of Refusal.Message = 7
number_of Refusal.Destination = 8
number_of Refusal.ErasePending = 9
number_of Refusal.ShortBuffer = 10
number_of Refusal.NotAStore = 11
number_of Refusal.Unsound = 12
number_of Refusal.NoErasePending = 13
number_of Refusal.MonitorId = 20
number_of Refusal.Value = 21
number_of Refusal.ReplyShort = 30
number_of Refusal.ReplyHeader = 31
number_of Refusal.ReplyLength = 32
number_of Refusal.ReplyNoReturn = 33
number_of Refusal.ReplyCheckCode = 34
number_of Refusal.ReplyMessage = 35

-- of the refusals by a board, 1 and 9 to 13 change nothing at all (CA3)
unfoldable pub changes_nothing : ℕ → Bool
changes_nothing n = eqb n 1 || leb 9 n
