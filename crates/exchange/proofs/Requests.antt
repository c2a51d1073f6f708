-- A packet that spells a request, given to a board that it addresses, does what the request says: its text is read as that request.
use mathlib.Core.Path.{◌≡◌, refl, sym, subst}
use mathlib.Core.Bool.{Bool, true, ◌&&◌}
use mathlib.Core.List.{List, ◌++◌}
use mathlib.Core.Option.{Option, none, some}
use Prim.Native.Nat.{ℕ, ◌+◌, ◌-◌, ◌≤◌}
use native.Mathlib.Omega.{arith}
use borrow.Author.Tests.{eq-eqb, ne_eqb}
use lib.Dec.{ltb, leb}
use lib.ListN.{length, get_or}
use Rattle.wire.specs.Digits.{SameDigits}
use Rattle.wire.specs.Packet.{address_of, all_address, zero_byte, packet_with, request_packet, packet_text, length_digits}
use Rattle.wire.proofs.Tests.{cond-by}
use Rattle.wire.proofs.CaseLaws.{same_length}
use Rattle.wire.proofs.PacketLaws.{packet-length, text-packet}
use Rattle.messages.specs.Message.{Request, IsRequest}
use Rattle.messages.specs.Text.{request_type, request_text}
use Rattle.messages.specs.Read.{request_in}
use Rattle.messages.specs.Spelling.{SpellsRequest, SpeltRequest}
use Rattle.messages.proofs.RoundTrips.{request-type, request-length}
use Rattle.messages.proofs.SpellingLaws.{request-spelt, request-written}
use Rattle.calls.specs.Board.{Identity}
use Rattle.calls.specs.Lists.{run}
use Rattle.actions.specs.Act.{effect}
use Rattle.board.specs.ByteCalls.{byte_calls, waits, seen_then}
use Rattle.packets.specs.Packets.{BoardState, addressee, to_own, to_all, on_packet_to, on_packet}
use Rattle.board.specs.BoardKind.{board_kind}
use Rattle.board.specs.Demand3.{Events}
use Rattle.board.proofs.PacketFed.{packet-fed}
use Rattle.station.specs.Encode.{Encoding, sends, refused, address_in, encoding_to, encoding_of, encoding}
use Rattle.station.specs.declared.encode.Destination.{Destination}
use Rattle.exchange.specs.Rows.{Idle}
use Rattle.exchange.specs.Demand2.{Addresses, done}

-- ---- what the encoder sends

pub record Sent (address : Option ℕ) (good : Bool) (kind : ℕ) (text p : List ℕ) : Type 0 where
  pub to : ℕ
  pub known : address ≡ some to
  pub in_range_law : good ≡ true
  pub is : p ≡ request_packet to kind text

module _ (kind : ℕ) (text p : List ℕ) where
  refusal-sends_none : {P : Type 0} (n : ℕ) → refused n ≡ sends p → P
  refusal-sends_none n e = let z : ◌≡◌ {A = ℕ} 0 1 = cc in absurd (omega arith)

  sent-to : (address : Option ℕ) (good : Bool) → encoding_to address good kind text ≡ sends p → Sent address good kind text p
  sent-to none good = refusal-sends_none 20
  sent-to (some a) good =
      cond-by (λ (x : Encoding). x ≡ sends p → Sent (some a) good kind text p) good _ _ (λ t e. record { to = a; known = refl; in_range_law = t; is = cc })
      (λ _. refusal-sends_none 21)

  pub sent : (room : ℕ) (dest : Destination) (good : Bool) → encoding_of room dest good kind text ≡ sends p → Sent (address_in dest) good kind text p
  unfolding encoding_of
  sent room dest good =
      cond-by (λ (x : Encoding). x ≡ sends p → Sent (address_in dest) good kind text p) (ltb room 64) _ _ (λ _. refusal-sends_none 10) (λ _. sent-to (address_in dest) good)

-- ---- what a packet does at a board that it addresses

module _ (i : Identity) (m lent : List ℕ) (kind : ℕ) (digits text : List ℕ) (counted : SameDigits (length_digits text) digits) (most : length text ≤ 62) where
  abbrev packet_to : ℕ → List ℕ
  packet_to a = packet_with a zero_byte kind digits text

  effect-back : (a : ℕ) → effect i m (request_in (get_or (packet_to a) 4 0) (packet_text (packet_to a))) ≡ effect i m (request_in kind text)
  unfolding packet_with
  effect-back a = rw (text-packet a zero_byte kind digits text counted most)

  pub own_done : on_packet i m (packet_to (address_of i.id)) lent ≡ to_own i (effect i m (request_in kind text)) lent
  unfolding on_packet on_packet_to addressee packet_with
  own_done = rw (eq-eqb (address_of i.id) (address_of i.id) refl, effect-back (address_of i.id))

  pub all_done : on_packet i m (packet_to all_address) lent ≡ to_all i (effect i m (request_in kind text)) lent
  unfolding on_packet on_packet_to addressee packet_with
  all_done = rw (ne_eqb all_address (address_of i.id) (λ q. omega arith), effect-back all_address)

-- ---- every request, in every spelling

module _ (r : Request) (h : IsRequest r) (digits text : List ℕ) (counted : SameDigits (length_digits text) digits) (said : SpellsRequest r text) where
  abbrev kind : ℕ
  kind = request_type r

  spelt_length : (2 ≤ length text) × (length text ≤ 62)
  spelt_length =
      let e = same_length (request_text r) text said.digits in
      let l = request-length r h in
      (omega (arith, l.0), omega (arith, l.1))

  module _ (i : Identity) (m lent : List ℕ) where
    packet-done : (dest : Destination) (a : ℕ) → Addresses dest i → address_in dest ≡ some a
        → on_packet i m (packet_with a zero_byte kind digits text) lent ≡ done dest i m r lent
    packet-done (Destination.Id n) a to =
        cond-by (λ (x : Option ℕ). x ≡ some a → on_packet i m (packet_with a zero_byte kind digits text) lent ≡ done (Destination.Id n) i m r lent) (leb 1 n && leb n 8) _ _
        (λ _ e. let is : a ≡ address_of i.id = cc in
        rw (is, own_done i m lent kind digits text counted spelt_length.1, request-spelt r text h said)) (λ _ e. cc)
    packet-done Destination.All a to = λ e.
        let is : a ≡ all_address = cc in
        rw (is, all_done i m lent kind digits text counted spelt_length.1, request-spelt r text h said)

  module _ (dest : Destination) (s : BoardState) (m : List ℕ) (lent : ℕ → List ℕ) (es : Events) where
    abbrev Does : List ℕ → Type 0
    Does p = run board_kind s.ident s m (byte_calls lent 0 p ++ es)
        ≡ waits lent m 0 (length p - 1) ++ seen_then s.ident m (done dest s.ident m r (lent (length p - 1))) es

    packet-does : (a : ℕ) → address_in dest ≡ some a → Idle s m → Addresses dest s.ident → ((k : ℕ) → 64 ≤ length (lent k))
        → Does (packet_with a zero_byte kind digits text)
    packet-does a known idle to big =
        let l : length (packet_with a zero_byte kind digits text) - 1 ≡ length text + 10 = rw (packet-length a zero_byte kind digits text counted) (omega arith) in
        rw (l, ← packet-done s.ident m (lent (length text + 10)) dest a to known)
        (packet-fed s m lent a kind digits text es idle.sound idle.resting idle.empty big counted (request-type r) spelt_length.0 spelt_length.1)

pub any_case : (dest : Destination) (address : ℕ) (r : Request) (p : List ℕ) → address_in dest ≡ some address → IsRequest r → SpeltRequest address r p
    → (s : BoardState) (m : List ℕ) → Idle s m → Addresses dest s.ident
    → (lent : ℕ → List ℕ) → ((k : ℕ) → 64 ≤ length (lent k)) → (es : Events)
    → run board_kind s.ident s m (byte_calls lent 0 p ++ es)
    ≡ waits lent m 0 (length p - 1) ++ seen_then s.ident m (done dest s.ident m r (lent (length p - 1))) es
any_case dest address r p known h spelt s m idle to lent big es =
    let digits = spelt.digits in
    let text = spelt.text in
    subst (Does r h digits text spelt.counted spelt.said dest s m lent es) (sym spelt.whole)
    (packet-does r h digits text spelt.counted spelt.said dest s m lent es address known idle to big)

-- what the station writes is a spelling too
pub requests : (dest : Destination) (r : Request) (room : ℕ) (p : List ℕ) → IsRequest r → encoding room dest r ≡ sends p
    → (s : BoardState) (m : List ℕ) → Idle s m → Addresses dest s.ident
    → (lent : ℕ → List ℕ) → ((k : ℕ) → 64 ≤ length (lent k)) → (es : Events)
    → run board_kind s.ident s m (byte_calls lent 0 p ++ es)
    ≡ waits lent m 0 (length p - 1) ++ seen_then s.ident m (done dest s.ident m r (lent (length p - 1))) es
requests dest r room p h e =
    let x = sent (request_type r) (request_text r) p room dest _ e in
    any_case dest x.to r p x.known h (subst (SpeltRequest x.to r) (sym x.is) (request-written x.to r))
