-- Every list of calls and power cuts as numbers that `play` takes (docs/RULES.md, D3g).
use Rattle.std.specs.Prelude.{List, [], ◌∷◌, ◌++◌, ◌≡◌, ℕ, ◌*◌, ◌≤◌, ◌<◌, length, get_or}
use Rattle.calls.specs.Lists.{Event, call, step, cut}
use Rattle.board.specs.BoardKind.{Call, byte, gap}
use Rattle.board.specs.Demand3.{Events}
use Rattle.play.specs.Play.{events_in}

-- ---- a list as numbers

-- the two numbers of an event
abbrev pub numbers_of : Event Call → List ℕ
numbers_of (call (byte b) lent) = b ∷ length lent ∷ []
numbers_of (call gap lent) = 256 ∷ length lent ∷ []
numbers_of (step lent) = 257 ∷ length lent ∷ []
numbers_of cut = 258 ∷ 0 ∷ []

-- the buffer that it is lent
abbrev pub lent_to : Event Call → List ℕ
lent_to (call c lent) = lent
lent_to (step lent) = lent
lent_to cut = []

unfoldable pub encoding_of : Events → List ℕ
encoding_of [] = []
encoding_of (e ∷ es) = numbers_of e ++ encoding_of es

-- all lent buffers, one behind the other
unfoldable pub buffers_of : Events → List ℕ
buffers_of [] = []
buffers_of (e ∷ es) = lent_to e ++ buffers_of es

-- a byte is below 256, and a lent buffer has at most 65,535 bytes
abbrev pub IsEvent : Event Call → Type 0
IsEvent (call (byte b) lent) = (b < 256) × (length lent ≤ 65535)
IsEvent (call gap lent) = length lent ≤ 65535
IsEvent (step lent) = length lent ≤ 65535
IsEvent cut = Unit {0}

unfoldable pub AreEvents : Events → Type 0
AreEvents [] = Unit {0}
AreEvents (e ∷ es) = IsEvent e × AreEvents es

-- what an encoding means
pub record Encodes : Type 0 where
  -- 16 bits hold each of its numbers
  pub words : (es : Events) → AreEvents es → (k : ℕ) → get_or (encoding_of es) k 0 < 65536
  -- with room for each event, two numbers and the 128 bytes, it means its list
  pub means : (es : Events) → AreEvents es → (room : ℕ) → 130 * length es ≤ room → events_in 128 room (encoding_of es) (buffers_of es) ≡ es
