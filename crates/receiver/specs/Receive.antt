-- The receiver (docs/RULES.md, 'Receiver', RX1 to RX6): what it holds and answers, one byte or gap at a time.
use Rattle.std.specs.Prelude.{Bool, true, false, cond, ◌&&◌, ◌||◌, List, [], ◌∷◌, ◌++◌, ℕ, ltb, eqb, length, get_or}
use Rattle.wire.specs.Packet.{soh, size}
use Rattle.wire.specs.Judge.{Verdict, header_verdict, packet_verdict}
use Rattle.wire.specs.Judge as judge

-- waiting for more, refused with a number, or a whole packet that refusals 2 to 7 let pass
pub data Reception : Type 0 where
  waiting : Reception
  refused : ℕ → Reception
  whole : List ℕ → Reception

-- what is held after a call, and its answer
pub record Receipt : Type 0 where
  pub held : List ℕ
  pub answer : Reception

abbrev pub keeps : List ℕ → Receipt
keeps held = record { held = held; answer = waiting }

-- after a refusal nothing is held
abbrev pub refuses : ℕ → Receipt
refuses n = record { held = []; answer = refused n }

-- after a whole packet nothing is held
abbrev pub delivers : List ℕ → Receipt
delivers packet = record { held = []; answer = whole packet }

abbrev pub judged : Verdict → Receipt → Receipt
judged judge.good r = r
judged (judge.refused n) r = refuses n

-- with nothing held, SOH begins a packet
abbrev pub begin : ℕ → Receipt
begin b = cond (eqb b soh) (keeps (b ∷ [])) (refuses 1)

-- with a byte more held: at byte 7 the header is judged, and when all bytes are there the packet
unfoldable pub grown : List ℕ → Receipt
grown held =
    cond (ltb (length held) 7) (keeps held)
    (cond (eqb (length held) 7) (judged (header_verdict held) (keeps held))
    (cond (ltb (length held) (size held)) (keeps held)
    (judged (packet_verdict held) (delivers held))))

-- a byte behind held ones is one more
unfoldable pub behind : List ℕ → ℕ → Receipt
behind held b = grown (held ++ (b ∷ []))

unfoldable pub accept : List ℕ → ℕ → Receipt
accept held b = cond (eqb (length held) 0) (begin b) (behind held b)

abbrev pub is_good : Verdict → Bool
is_good judge.good = true
is_good (judge.refused n) = false

-- 'proper beginning' (ST4): none; or SOH first, fewer than all bytes, and from 7 on a header that passes 2, 3 and 4
unfoldable pub is_proper_beginning : List ℕ → Bool
is_proper_beginning held =
    eqb (length held) 0
    || (eqb (get_or held 0 0) soh && (ltb (length held) 7 || (is_good (header_verdict held) && ltb (length held) (size held))))

-- one byte; held bytes that are no proper beginning are not sound
unfoldable pub on_byte : List ℕ → ℕ → Receipt
on_byte held b = cond (is_proper_beginning held) (accept held b) (record { held = held; answer = refused 12 })

-- a gap
abbrev pub on_gap : Receipt
on_gap = keeps []

-- ---- lists of bytes

unfoldable pub held_after : List ℕ → List ℕ → List ℕ
held_after held [] = held
held_after held (b ∷ bs) = held_after (on_byte held b).held bs

unfoldable pub answers_to : List ℕ → List ℕ → List Reception
answers_to held [] = []
answers_to held (b ∷ bs) = (on_byte held b).answer ∷ answers_to (on_byte held b).held bs
