-- Numbers on the wire (docs/RULES.md, 'Packets', PK3): hexadecimal digits, high digit first; written in capitals, and received in either case.
use Rattle.std.specs.Prelude.{cond, ◌&&◌, List, [], ◌∷◌, ◌++◌, ◌⊎◌, ◌≡◌, ℕ, ◌+◌, ◌-◌, ◌*◌, ◌/◌, ◌%◌, ◌≤◌, ◌<◌, ltb, leb, length, get_or, take, drop, replicate}
use Rattle.std.proofs.Math.Option.{Option, none, some, map}
use Rattle.std.specs.Prelude as code
use Rattle.wire.specs.declared.digits.Octets.{Octets}

-- each element of a list is a byte
abbrev pub Bytes : List ℕ → Type 0
Bytes s = (i : ℕ) → get_or s i 0 < 256

-- ---- as written

-- the digit of a number below 16
abbrev pub digit_of : ℕ → ℕ
digit_of n = cond (ltb n 10) (0x30 + n) (0x37 + n)

-- a number below 256 as two digits
abbrev pub two : ℕ → List ℕ
two n = digit_of (n / 16) ∷ digit_of (n % 16) ∷ []

-- a number below 65536 as four digits
abbrev pub four : ℕ → List ℕ
four n = digit_of (n / 256 / 16) ∷ digit_of (n / 256 % 16) ∷ digit_of (n % 256 / 16) ∷ digit_of (n % 256 % 16) ∷ []

-- bytes as two digits each
unfoldable pub hex_of : List ℕ → List ℕ
hex_of [] = []
hex_of (b ∷ bs) = digit_of (b / 16) ∷ digit_of (b % 16) ∷ hex_of bs

-- ---- as received

-- what is read on from a first part; none where that is none. The library's own is not seen by the attribute that opens a reader's definition.
abbrev pub bind : {A B : Type 0} → Option A → (A → Option B) → Option B
bind none f = none
bind (some x) f = f x

-- the value of a digit; none where the byte is no digit
unfoldable pub value_of : ℕ → Option ℕ
value_of b =
    cond (leb 0x30 b && leb b 0x39) (some (b - 0x30))
    (cond (leb 0x41 b && leb b 0x46) (some (b - 0x37))
    (cond (leb 0x61 b && leb b 0x66) (some (b - 0x57)) none))

-- a high and a low part as one number, the low part below base; none where either is none
abbrev pub join_low : ℕ → ℕ → Option ℕ → Option ℕ
join_low base high none = none
join_low base high (some low) = some (high * base + low)

abbrev pub join : ℕ → Option ℕ → Option ℕ → Option ℕ
join base none low = none
join base (some high) low = join_low base high low

-- the two digits at a place
unfoldable pub two_at : List ℕ → ℕ → Option ℕ
two_at s at = join 16 (value_of (get_or s at 0)) (value_of (get_or s (at + 1) 0))

-- the four digits at a place
unfoldable pub four_at : List ℕ → ℕ → Option ℕ
four_at s at = join 256 (two_at s at) (two_at s (at + 2))

-- one byte more in front; none where there is no byte, or nothing behind it
abbrev pub cons_low : ℕ → Option (List ℕ) → Option (List ℕ)
cons_low b bs = map (λ (s : List ℕ). b ∷ s) bs

abbrev pub cons : Option ℕ → Option (List ℕ) → Option (List ℕ)
cons none bs = none
cons (some b) bs = cons_low b bs

-- the bytes that two digits each give; none where a digit is bad, or left over
unfoldable pub unhex : List ℕ → Option (List ℕ)
unhex [] = some []
unhex (h ∷ []) = none
unhex (h ∷ l ∷ t) = cons (join 16 (value_of h) (value_of l)) (unhex t)

-- the same for at most 16 bytes, as serial numbers, models and tags have
unfoldable pub octets_in : List ℕ → Option (List ℕ)
octets_in t = cond (ltb 32 (length t)) none (unhex t)

-- ---- in either case

-- b may come where a is written: the same byte, or a small letter for a digit A to F
abbrev pub SameDigit : ℕ → ℕ → Type 0
SameDigit a b = (b ≡ a) ⊎ ((0x41 ≤ a) × (a ≤ 0x46) × (b ≡ a + 0x20))

-- as many bytes in both, and each of the second may come where that of the first is written
unfoldable pub SameDigits : List ℕ → List ℕ → Type 0
SameDigits [] [] = Unit {0}
SameDigits [] (b ∷ t) = ⊥
SameDigits (a ∷ s) [] = ⊥
SameDigits (a ∷ s) (b ∷ t) = SameDigit a b × SameDigits s t

-- ---- what the code's answers mean

-- what is found, if anything
abbrev pub found : {A : Type 0} → code.Option A → Option A
found (code.Some x) = some x
found code.None = none

-- 16 bytes: those of a serial number, a model or a tag, and 00h behind them
unfoldable pub padded : List ℕ → List ℕ
padded s = s ++ drop (length s) (replicate 16 0)

-- bytes in an array of 16, zeros behind them, with their count
abbrev pub octets : List ℕ → Octets
octets s = record { bytes = padded s; count = length s }

-- the bytes that are counted
abbrev pub octets_of : Octets → List ℕ
octets_of o = take o.count o.bytes

-- no more bytes are counted than there are, and zeros stand behind them
pub record Exact (o : Octets) : Type 0 where
  pub few : o.count ≤ 16
  pub padding : o.bytes ≡ padded (octets_of o)
