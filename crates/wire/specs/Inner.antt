-- What inner functions ask of their callers and what they give. No contract of an entry point cites it.
use Rattle.std.specs.Prelude.{List, [], ◌∷◌, ◌++◌, ◌≡◌, ℕ, ◌+◌, ◌≤◌, length}
use Rattle.wire.specs.Digits.{two}
use Rattle.wire.specs.Packet.{soh, stx, zero_byte, size, least_packet}

-- a text that a packet can hold, and a buffer that holds the packet: L, which counts STX and ETX too, is 4 to 64
pub record Fits (text buffer : List ℕ) : Type 0 where
  pub least : 2 ≤ length text
  pub most : length text ≤ 62
  pub room : length text + 11 ≤ length buffer

-- the header of a packet whose text has n bytes, and STX
abbrev pub header : ℕ → ℕ → ℕ → ℕ → List ℕ
header dest source kind n = soh ∷ zero_byte ∷ dest ∷ source ∷ kind ∷ (two (n + 2) ++ (stx ∷ []))

-- as many bytes as the size says
pub record Whole (p : List ℕ) : Type 0 where
  pub least : least_packet ≤ length p
  pub sized : size p ≡ length p
