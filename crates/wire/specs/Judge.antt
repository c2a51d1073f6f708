-- How a packet is judged (docs/RULES.md, 'Receiver', RX2 and RX3): its header in the order 2, 3, 4, the whole in the order 5, 6, 7.
use Rattle.std.specs.Prelude.{Result, Ok, Err, Bool, false, cond, not, ◌&&◌, ◌||◌, List, ℕ, ◌-◌, leb, eqb, get_or}
use Rattle.std.proofs.Math.Option.{Option, none, some}
use Rattle.wire.specs.Digits.{two_at}
use Rattle.wire.specs.Packet.{size, check_code, zero_byte, stx, etx, cr, type_a, type_c, type_e, least_l, most_l}
use Rattle.wire.specs.Refusal.{number_of}
use Rattle.wire.specs.declared.refusal.Refusal.{Refusal}

-- good, or refused with a number
pub data Verdict : Type 0 where
  good : Verdict
  refused : ℕ → Verdict

-- requests have type A, C or E
abbrev pub is_request_type : ℕ → Bool
is_request_type kind = eqb kind type_a || (eqb kind type_c || eqb kind type_e)

-- the number that the length digits give, if any, is 4 to 64
abbrev pub in_limits : Option ℕ → Bool
in_limits (some l) = leb least_l l && leb l most_l
in_limits none = false

-- the length digits in the header are good
unfoldable pub is_length : List ℕ → Bool
is_length held = in_limits (two_at held 5)

-- a header: reserved byte and source, type, length
unfoldable pub header_verdict : List ℕ → Verdict
header_verdict held =
    cond (not (eqb (get_or held 1 0) zero_byte)) (refused 2)
    (cond (not (eqb (get_or held 3 0) zero_byte)) (refused 2)
    (cond (not (is_request_type (get_or held 4 0))) (refused 3)
    (cond (not (is_length held)) (refused 4) good)))

-- the last byte is CR
unfoldable pub ends_in_return : List ℕ → Bool
ends_in_return p = eqb (get_or p (size p - 1) 0) cr

-- the byte before it is the check code
unfoldable pub has_check_code : List ℕ → Bool
has_check_code p = eqb (get_or p (size p - 2) 0) (check_code p)

-- the message begins with STX and ends with ETX
unfoldable pub is_message : List ℕ → Bool
is_message p = eqb (get_or p 7 0) stx && eqb (get_or p (size p - 3) 0) etx

-- a packet of as many bytes as its size says
unfoldable pub packet_verdict : List ℕ → Verdict
packet_verdict p =
    cond (not (ends_in_return p)) (refused 5)
    (cond (not (has_check_code p)) (refused 6)
    (cond (not (is_message p)) (refused 7) good))

-- ---- what the code's answer means

abbrev pub verdict : Result Unit Refusal → Verdict
verdict (Ok u) = good
verdict (Err r) = refused (number_of r)
