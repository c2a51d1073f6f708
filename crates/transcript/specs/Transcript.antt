-- The transcript of a line (docs/RULES.md, 'Worked examples', RT4): bytes are given to a board one by one, and 128 steps run when an erase
-- begins. A line tells each answer other than waiting and more: bytes read so far, kind, then reply bytes or the refusal's number.
use Rattle.std.specs.Prelude.{Bool, true, false, cond, ◌&&◌, List, [], ◌∷◌, ◌++◌, ◌≡◌, ℕ, zero, suc, ◌+◌, ◌/◌, ◌%◌, ltb, leb, eqb, length, take}
use Rattle.wire.specs.Digits.{hex_of}
use Rattle.wire.specs.Packet.{over}
use Rattle.calls.specs.Board.{Answer, waiting, silent, begun, more, ended, refused, reply}
use Rattle.calls.specs.Calls.{on_call, on_step}
use Rattle.packets.specs.Packets.{BoardState}
use Rattle.board.specs.BoardKind.{byte, board_kind}
use Rattle.board.specs.View.{Result, result}

-- ---- a line

-- a number in decimal without leading zeros, at most so many digits
unfoldable pub digits_within : ℕ → ℕ → List ℕ
digits_within zero n = []
digits_within (suc most) n = cond (ltb n 10) ((0x30 + n % 10) ∷ []) (digits_within most (n / 10) ++ ((0x30 + n % 10) ∷ []))

-- 20 digits hold every number of 64 bits
abbrev pub decimal : ℕ → List ℕ
decimal n = digits_within 20 n

-- silent, begun, ended, refused or reply, behind a space
abbrev pub word_of : Answer ℕ → List ℕ
word_of waiting = []
word_of silent = 0x20 ∷ 0x73 ∷ 0x69 ∷ 0x6C ∷ 0x65 ∷ 0x6E ∷ 0x74 ∷ []
word_of begun = 0x20 ∷ 0x62 ∷ 0x65 ∷ 0x67 ∷ 0x75 ∷ 0x6E ∷ []
word_of more = []
word_of ended = 0x20 ∷ 0x65 ∷ 0x6E ∷ 0x64 ∷ 0x65 ∷ 0x64 ∷ []
word_of (refused n) = 0x20 ∷ 0x72 ∷ 0x65 ∷ 0x66 ∷ 0x75 ∷ 0x73 ∷ 0x65 ∷ 0x64 ∷ []
word_of (reply n) = 0x20 ∷ 0x72 ∷ 0x65 ∷ 0x70 ∷ 0x6C ∷ 0x79 ∷ []

-- behind a space the refusal's number, or the reply's bytes in hexadecimal
abbrev pub data_of : Answer ℕ → List ℕ → List ℕ
data_of waiting lent = []
data_of silent lent = []
data_of begun lent = []
data_of more lent = []
data_of ended lent = []
data_of (refused n) lent = 0x20 ∷ decimal n
data_of (reply n) lent = 0x20 ∷ hex_of (take n lent)

abbrev pub is_told : Answer ℕ → Bool
is_told waiting = false
is_told silent = true
is_told begun = true
is_told more = false
is_told ended = true
is_told (refused n) = true
is_told (reply n) = true

-- the line of an answer after so many bytes
unfoldable pub line_of : ℕ → Answer ℕ → List ℕ → List ℕ
line_of at a lent = cond (is_told a) (decimal at ++ (word_of a ++ (data_of a lent ++ (0x0A ∷ [])))) []

-- ---- a byte

abbrev pub is_begun : Answer ℕ → Bool
is_begun waiting = false
is_begun silent = false
is_begun begun = true
is_begun more = false
is_begun ended = false
is_begun (refused n) = false
is_begun (reply n) = false

-- steps, one after another
unfoldable pub after_steps : ℕ → Result → Result
after_steps zero r = r
after_steps (suc n) r = result (on_step board_kind (after_steps n r).state (after_steps n r).store (after_steps n r).buffer) (after_steps n r).store

-- what the last call left, and the lines
pub record Transcribed : Type 0 where
  pub last : Result
  pub lines : List ℕ

-- 128 steps where an erase began; all but the last of them answer more
unfoldable pub transcribed_from : ℕ → Result → Transcribed
transcribed_from at r =
    cond (is_begun r.answer)
    (record { last = after_steps 128 r; lines = line_of at r.answer r.buffer ++ line_of at (after_steps 128 r).answer (after_steps 128 r).buffer })
    (record { last = r; lines = line_of at r.answer r.buffer })

abbrev pub transcribed : ℕ → ℕ → BoardState → List ℕ → List ℕ → Transcribed
transcribed at b s m lent = transcribed_from at (result (on_call board_kind (byte b) s m lent) m)

-- the board, store and reply buffer after a byte, and its lines at the start of a buffer
pub record Told (t : Transcribed) (s : BoardState) (n : ℕ) (store lent before after : List ℕ) : Type 0 where
  pub state : s ≡ t.last.state
  pub count : n ≡ length t.lines
  pub stored : store ≡ t.last.store
  pub buffer : lent ≡ t.last.buffer
  pub written : after ≡ over t.lines before

-- nothing is done where the reply buffer has not 64 bytes, or there is no room for the lines
abbrev pub untold : BoardState → List ℕ → List ℕ → Transcribed
untold s m lent = record { last = record { answer = waiting; state = s; store = m; buffer = lent }; lines = [] }

unfoldable pub fed : ℕ → ℕ → BoardState → List ℕ → List ℕ → ℕ → Transcribed
fed at b s m lent room = cond (eqb (length lent) 64 && leb 512 room) (transcribed at b s m lent) (untold s m lent)
