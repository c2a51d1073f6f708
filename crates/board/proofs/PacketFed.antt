-- A request packet, byte_calls byte by byte to a board with nothing held, is waited on until its last byte, which does what the packet says.
use mathlib.Core.Path.{◌≡◌, refl, ap, sym, ◌∙◌, subst}
use mathlib.Core.Bool.{true, false, ◌&&◌}
use mathlib.Core.List.{List, [], ◌∷◌, ◌++◌, map, append-nil}
use Prim.Native.Nat.{ℕ, zero, suc, ◌+◌, ◌≤◌}
use native.Mathlib.Nat.{zero-add, add-zero}
use native.Mathlib.Omega.{arith}
use lib.ListN.{length, replicate}
use borrow.Author.Tests.{le-ltb}
use Rattle.wire.specs.Digits.{SameDigits}
use Rattle.wire.specs.Packet.{zero_byte, packet_with, packet, length_digits}
use Rattle.wire.specs.Judge.{is_request_type}
use Rattle.wire.proofs.PacketLaws.{written-counted}
use Rattle.receiver.specs.Receive as receive
use Rattle.receiver.proofs.Laws.{accept-proper, byte-accepted}
use Rattle.receiver.proofs.Theorems.{packet-received}
use Rattle.calls.specs.Board.{Identity, Answer, waiting, idle, is_pending}
use Rattle.calls.specs.Calls.{is_short, entry_check, is_sound, entry_check_of, call_on, on_call}
use Rattle.calls.specs.Lists.{call, seen, run}
use Rattle.packets.specs.Packets.{BoardState, BoardOutcome, holding, on_packet}
use Rattle.board.specs.BoardKind.{Call, byte, lends, on_receipt, does, board_kind}
use Rattle.board.specs.Demand3.{Events, Trace, answers_in}
use Rattle.board.specs.ByteCalls.{byte_calls, waits, seen_then}
use Rattle.board.proofs.BoardLaws.{Resting, resting, resting-sound, holds-others}

-- past the checks a call is done
pub call-done : (c : Call) (s : BoardState) (m lent : List ℕ) → lends c && is_short lent ≡ false → is_sound board_kind s m ≡ true → s.erase ≡ idle
    → on_call board_kind c s m lent ≡ does c s m lent
unfolding on_call call_on entry_check_of entry_check
call-done c s m lent t h q = simp (t, h, ap is_pending q)

module _ (i : Identity) (m : List ℕ) (lent : ℕ → List ℕ) (room : (k : ℕ) → 64 ≤ length (lent k)) where
  byte-received : (k b : ℕ) (held : List ℕ) → Resting i held m → {a : receive.Reception} → (receive.on_byte held b).answer ≡ a
      → on_call board_kind (byte b) (holding i held) m (lent k) ≡ on_receipt a (receive.on_byte held b).held i m (lent k)
  unfolding does is_short
  byte-received k b held r e =
      call-done (byte b) (holding i held) m (lent k) (le-ltb (length (lent k)) 64 (room k)) (resting-sound r) refl ∙ rw (← byte-accepted held b r.proper, e)

  byte-leaves : (b : ℕ) (held : List ℕ) → Resting i held m → Resting i (receive.on_byte held b).held m
  byte-leaves b held r = holds-others (receive.on_byte held b).held (rw (byte-accepted held b r.proper) (accept-proper held b r.proper)) r

  -- where the receiver waits for n bytes and then has a whole packet, so does the board, and it does what the packet says
  bytes-fed : (n k : ℕ) (held bytes p : List ℕ) (es : Events) → Resting i held m
      → receive.answers_to held bytes ≡ replicate n receive.waiting ++ (receive.whole p ∷ [])
      → run board_kind i (holding i held) m (byte_calls lent k bytes ++ es) ≡ waits lent m k n ++ seen_then i m (on_packet i m p (lent (k + n))) es
  unfolding run seen receive.answers_to on_receipt byte_calls waits
  bytes-fed zero k held [] p es r e = cc
  bytes-fed (suc n) k held [] p es r e = cc
  bytes-fed zero k held (b ∷ []) p es r e =
      let w : (receive.on_byte held b).answer ≡ receive.whole p = cc in
      rw (byte-received k b held r w, add-zero)
  bytes-fed zero k held (b ∷ c ∷ bytes) p es r e = cc
  bytes-fed (suc n) k held (b ∷ bytes) p es r e =
      let w : (receive.on_byte held b).answer ≡ receive.waiting = cc in
      let last : k + suc n ≡ suc k + n = omega arith in
      rw (last, byte-received k b held r w, bytes-fed n (suc k) (receive.on_byte held b).held bytes p es (byte-leaves b held r) (cc))

-- a sound board with no erase pending and nothing held
pub packet-fed : (s : BoardState) (m : List ℕ) (lent : ℕ → List ℕ) (dest kind : ℕ) (digits text : List ℕ) (es : Events)
    → is_sound board_kind s m ≡ true → s.erase ≡ idle → s.held ≡ []
    → ((k : ℕ) → 64 ≤ length (lent k)) → SameDigits (length_digits text) digits
    → is_request_type kind ≡ true → 2 ≤ length text → length text ≤ 62
    → run board_kind s.ident s m (byte_calls lent 0 (packet_with dest zero_byte kind digits text) ++ es)
    ≡ waits lent m 0 (length text + 10) ++ seen_then s.ident m (on_packet s.ident m (packet_with dest zero_byte kind digits text) (lent (length text + 10))) es
packet-fed s m lent dest kind digits text es h q n room counted request least most =
    let p = packet_with dest zero_byte kind digits text in
    let is : s ≡ holding s.ident [] = λ j. record { ident = s.ident; held = n j; erase = q j } in
    ap (λ (b : BoardState). run board_kind s.ident b m (byte_calls lent 0 p ++ es)) is
    ∙ rw zero-add at (bytes-fed s.ident m lent room (length text + 10) 0 [] p p es (subst (λ (held : List ℕ). Resting s.ident held m) n (resting s m q h))
    (packet-received dest kind digits text counted request least most))

-- ---- its answers alone

waited : (n k : ℕ) (m : List ℕ) (lent : ℕ → List ℕ) (os : Trace) → answers_in (waits lent m k n ++ os) ≡ replicate n waiting ++ answers_in os
unfolding answers_in waits
waited zero k m lent os = refl
waited (suc n) k m lent os = ap (λ (l : List (Answer ℕ)). waiting ∷ l) (waited n (suc k) m lent os)

last-answered : (i : Identity) (m : List ℕ) (o : BoardOutcome) → answers_in (seen_then i m o []) ≡ o.answer ∷ []
unfolding answers_in seen run
last-answered i m o = refl

pub packet-answered : (s : BoardState) (m : List ℕ) (lent : ℕ → List ℕ) (dest kind : ℕ) (text : List ℕ)
    → is_sound board_kind s m ≡ true → s.erase ≡ idle → s.held ≡ []
    → ((k : ℕ) → 64 ≤ length (lent k)) → is_request_type kind ≡ true → 2 ≤ length text → length text ≤ 62
    → answers_in (run board_kind s.ident s m (byte_calls lent 0 (packet dest zero_byte kind text)))
    ≡ replicate (length text + 10) waiting ++ ((on_packet s.ident m (packet dest zero_byte kind text) (lent (length text + 10))).answer ∷ [])
unfolding packet
packet-answered s m lent dest kind text h q n room request least most =
    let p = packet dest zero_byte kind text in
    ap (λ (es : Events). answers_in (run board_kind s.ident s m es)) (sym (append-nil (byte_calls lent 0 p)))
    ∙ ap answers_in (packet-fed s m lent dest kind (length_digits text) text [] h q n room (written-counted text) request least most)
    ∙ waited (length text + 10) 0 m lent _
    ∙ ap (λ (l : List (Answer ℕ)). replicate (length text + 10) waiting ++ l) (last-answered s.ident m (on_packet s.ident m p (lent (length text + 10))))

-- the same buffer lent for each byte
pub fed-alike : (lent : List ℕ) (k : ℕ) (bytes : List ℕ) → byte_calls (λ _. lent) k bytes ≡ map (λ (b : ℕ). call (byte b) lent) bytes
unfolding byte_calls
fed-alike lent k [] = refl
fed-alike lent k (b ∷ bytes) = rw (fed-alike lent (suc k) bytes)
