-- Packets (docs/RULES.md, 'Packets', PK1 to PK5): a header of seven bytes, the message from STX to ETX, a check code and CR.
-- Every position behind the header is said from `size`, the number of bytes of the whole packet.
use Rattle.std.specs.Prelude.{List, [], ◌∷◌, ◌++◌, ℕ, ◌+◌, ◌-◌, length, take, drop}
use Rattle.std.proofs.Math.Option.{Option, none, some}
use Rattle.std.specs.Int.Bits.{bit_xor}
use Rattle.wire.specs.Digits.{two, two_at}

abbrev pub soh : ℕ
soh = 0x01

abbrev pub stx : ℕ
stx = 0x02

abbrev pub etx : ℕ
etx = 0x03

abbrev pub cr : ℕ
cr = 0x0D

-- '0': the reserved byte, and the station's address
abbrev pub zero_byte : ℕ
zero_byte = 0x30

-- ALL, the destination that every monitor takes
abbrev pub all_address : ℕ
all_address = 0x2A

-- monitor IDs are 1 to 8
abbrev pub least_id : ℕ
least_id = 1

abbrev pub most_id : ℕ
most_id = 8

-- a monitor's address is its ID past this: 41h for 1, 48h for 8
abbrev pub address_base : ℕ
address_base = 0x40

abbrev pub address_of : ℕ → ℕ
address_of id = address_base + id

-- the types: a command and its reply, Get and its reply, Set and its reply
abbrev pub type_a : ℕ
type_a = 0x41

abbrev pub type_b : ℕ
type_b = 0x42

abbrev pub type_c : ℕ
type_c = 0x43

abbrev pub type_d : ℕ
type_d = 0x44

abbrev pub type_e : ℕ
type_e = 0x45

abbrev pub type_f : ℕ
type_f = 0x46

-- L, which counts the message from STX to ETX, is 4 to 64; a packet has 9 bytes besides
abbrev pub least_l : ℕ
least_l = 4

abbrev pub most_l : ℕ
most_l = 64

-- the least and the most bytes of a packet
abbrev pub least_packet : ℕ
least_packet = 13

abbrev pub most_packet : ℕ
most_packet = 73

-- a lent buffer for a packet has at least 64 bytes; no packet that is written is longer
abbrev pub least_buffer : ℕ
least_buffer = 64

-- ---- a packet as it is made up, and as it is written

-- the exclusive or of a and all bytes
unfoldable pub xor_from : ℕ → List ℕ → ℕ
xor_from a [] = a
xor_from a (b ∷ bs) = xor_from (bit_xor a b) bs

abbrev pub xor_of : List ℕ → ℕ
xor_of bs = xor_from 0 bs

-- all bytes after SOH through ETX
abbrev pub covered : ℕ → ℕ → ℕ → List ℕ → List ℕ → List ℕ
covered dest source kind digits text = zero_byte ∷ dest ∷ source ∷ kind ∷ (digits ++ (stx ∷ (text ++ (etx ∷ []))))

-- a packet with length digits, and the text between STX and ETX; the check code is that of the bytes as they are
unfoldable pub packet_with : ℕ → ℕ → ℕ → List ℕ → List ℕ → List ℕ
packet_with dest source kind digits text =
    soh ∷ (covered dest source kind digits text ++ (xor_of (covered dest source kind digits text) ∷ cr ∷ []))

-- the length digits of a text count it, STX and ETX
abbrev pub length_digits : List ℕ → List ℕ
length_digits text = two (length text + 2)

-- a packet as it is written
unfoldable pub packet : ℕ → ℕ → ℕ → List ℕ → List ℕ
packet dest source kind text = packet_with dest source kind (length_digits text) text

-- a request comes from the station, a reply goes to it
abbrev pub request_packet : ℕ → ℕ → List ℕ → List ℕ
request_packet dest kind text = packet dest zero_byte kind text

abbrev pub reply_packet : ℕ → ℕ → List ℕ → List ℕ
reply_packet source kind text = packet zero_byte source kind text

-- p at the start of a buffer, the rest of it untouched
unfoldable pub over : List ℕ → List ℕ → List ℕ
over p buffer = p ++ drop (length p) buffer

-- ---- a packet as received

abbrev pub size_from : Option ℕ → ℕ
size_from (some l) = l + 9
size_from none = 0

-- how many bytes the packet has whose first seven or more are held: L + 9. Bad length digits have no meaning; refusal 4 comes first.
unfoldable pub size : List ℕ → ℕ
size held = size_from (two_at held 5)

-- the check code that a packet should have
unfoldable pub check_code : List ℕ → ℕ
check_code p = xor_of (take (size p - 3) (drop 1 p))

-- the text of a packet, between STX and ETX
unfoldable pub packet_text : List ℕ → List ℕ
packet_text p = take (size p - 11) (drop 8 p)
