-- An exchange from an effect: a packet given whole to an idle board is waited on, then its effect's reply is sent, and its stores leave the board idle.
use mathlib.Core.Path.{◌≡◌, refl, ap, ◌∙◌}
use mathlib.Core.Bool.{true}
use mathlib.Core.List.{List, [], ◌++◌}
use Prim.Native.Nat.{ℕ, ◌+◌, ◌≤◌}
use lib.ListN.{length}
use Rattle.wire.specs.Digits.{SameDigits}
use Rattle.wire.specs.Packet.{address_of, all_address, zero_byte, packet_with, length_digits}
use Rattle.wire.specs.Judge.{is_request_type}
use Rattle.wire.proofs.PacketLaws.{written-counted}
use Rattle.plan.specs.Stores.{Entry, applied}
use Rattle.messages.specs.Message.{Request, Reply, IsRequest, IsReply}
use Rattle.messages.specs.Text.{request_type, request_text}
use Rattle.messages.specs.Read.{request_in}
use Rattle.messages.proofs.RoundTrips.{request-back, request-type, request-length}
use Rattle.calls.specs.Board.{Identity}
use Rattle.calls.specs.Lists.{seen, run}
use Rattle.actions.specs.Act.{Effect, replies, says, effect_of, effect}
use Rattle.packets.specs.Packets.{BoardOutcome, holding, reply_from, to_own, to_all, on_packet}
use Rattle.packets.proofs.IdentityLaws.{Named, named_told}
use Rattle.packets.proofs.EffectLaws.{effect-keeps}
use Rattle.board.specs.BoardKind.{board_kind}
use Rattle.board.specs.Demand3.{Events}
use Rattle.board.specs.ByteCalls.{byte_calls, waits, seen_then}
use Rattle.board.proofs.BoardLaws.{Resting, resting, resting-sound, stores-kept}
use Rattle.board.proofs.PacketFed.{packet-fed}
use Rattle.exchange.specs.Rows.{Idle, Ready, Exchange, Asks, Shows}
use Rattle.exchange.proofs.Requests.{own_done, all_done}
use Rattle.exchange.proofs.ReplyLaws.{effect_sayable, reply-read}

module _ (i : Identity) (m : List ℕ) (idle : Idle (holding i []) m) where
  pub rest : Resting i [] m
  rest = resting (holding i []) m refl idle.sound

  pub named : Named i
  named = named_told i rest.named

  -- ---- a packet

  module _ (kind : ℕ) (digits text : List ℕ) (counted : SameDigits (length_digits text) digits)
      (request : is_request_type kind ≡ true) (least : 2 ≤ length text) (most : length text ≤ 62) where
    module _ (lent : ℕ → List ℕ) (room : (k : ℕ) → 64 ≤ length (lent k)) (later : Events) where
      -- what is seen of it, sent to an address: waiting, an outcome on its last byte, and the rest
      abbrev Seen : ℕ → BoardOutcome → Type 0
      Seen a o = run board_kind i (holding i []) m (byte_calls lent 0 (packet_with a zero_byte kind digits text) ++ later)
          ≡ waits lent m 0 (length text + 10) ++ seen_then i m o later

      packet-seen : (a : ℕ) {o : BoardOutcome} → on_packet i m (packet_with a zero_byte kind digits text) (lent (length text + 10)) ≡ o → Seen a o
      packet-seen a e =
          packet-fed (holding i []) m lent a kind digits text later idle.sound refl refl room counted request least most
          ∙ ap (λ (o : BoardOutcome). waits lent m 0 (length text + 10) ++ seen_then i m o later) e

      pub own_seen : {x : Effect} → effect i m (request_in kind text) ≡ x → Seen (address_of i.id) (to_own i x (lent (length text + 10)))
      own_seen is =
          let last = lent (length text + 10) in
          packet-seen (address_of i.id) (own_done i m last kind digits text counted most ∙ ap (λ (x : Effect). to_own i x last) is)

      pub all_seen : {x : Effect} → effect i m (request_in kind text) ≡ x → Seen all_address (to_all i x (lent (length text + 10)))
      all_seen is =
          let last = lent (length text + 10) in
          packet-seen all_address (all_done i m last kind digits text counted most ∙ ap (λ (x : Effect). to_all i x last) is)

    pub exchanged : {x : Reply} {es : List Entry} → effect i m (request_in kind text) ≡ replies x es → IsReply x
        → Exchange i m kind digits text x (applied es m)
    unfolding seen to_own to_all
    exchanged {x} is h =
        let keeps = effect-keeps i m kind text rest.size rest.ranged is in
        record {
          sent = reply_from i x;
          replied = λ lent room later. own_seen lent room later is;
          read = reply-read i named x h;
          silently = λ lent room later. all_seen lent room later is;
          rests = record { sound = resting-sound (stores-kept keeps rest); resting = refl; empty = refl };
        }

  -- ---- a request

  pub request_effect : (r : Request) {x : Effect} → IsRequest r → effect_of i m r ≡ x → effect i m (request_in (request_type r) (request_text r)) ≡ x
  request_effect r h is = ap (effect i m) (request-back r h) ∙ is

  pub asks : (r : Request) {x : Reply} {es : List Entry} → IsRequest r → effect_of i m r ≡ replies x es → IsReply x → Asks i m r x (applied es m)
  asks r h is y =
      let text = request_text r in
      exchanged (request_type r) (length_digits text) text (written-counted text) (request-type r) (request-length r h).0 (request-length r h).1
      (request_effect r h is) y

  -- one that stores nothing
  pub shows : (r : Request) {x : Reply} → IsRequest r → effect_of i m r ≡ says x → IsReply x → Shows i m r x
  shows r h is y = asks r h is y

-- where the bytes of the board are bytes, every reply has a text
module _ (i : Identity) (m : List ℕ) (ready : Ready i m) where
  sayable : (kind : ℕ) (text : List ℕ) {x : Reply} {es : List Entry} → effect i m (request_in kind text) ≡ replies x es → IsReply x
  sayable kind text is = effect_sayable i m ready.in_bytes (named i m ready.rests) (rest i m ready.rests).ranged kind text is

  pub ready-exchanged : (kind : ℕ) (digits text : List ℕ) {x : Reply} {es : List Entry} → SameDigits (length_digits text) digits
      → is_request_type kind ≡ true → 2 ≤ length text → length text ≤ 62
      → effect i m (request_in kind text) ≡ replies x es → Exchange i m kind digits text x (applied es m)
  ready-exchanged kind digits text counted request least most is =
      exchanged i m ready.rests kind digits text counted request least most is (sayable kind text is)

  pub ready-sayable : (r : Request) {x : Reply} {es : List Entry} → IsRequest r → effect_of i m r ≡ replies x es → IsReply x
  ready-sayable r h is = sayable (request_type r) (request_text r) (request_effect i m ready.rests r h is)

  pub ready-asks : (r : Request) {x : Reply} {es : List Entry} → IsRequest r → effect_of i m r ≡ replies x es → Asks i m r x (applied es m)
  ready-asks r h is = asks i m ready.rests r h is (ready-sayable r h is)

  pub ready-shows : (r : Request) {x : Reply} → IsRequest r → effect_of i m r ≡ says x → Shows i m r x
  ready-shows r h is = ready-asks r h is
