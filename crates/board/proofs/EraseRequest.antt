-- The erase request, byte_calls to any sound board with no erase pending, on or in standby, begins an erase with its last byte.
use mathlib.Core.Path.{◌≡◌, refl, ap, sym, ◌∙◌}
use mathlib.Core.Bool.{true}
use mathlib.Core.List.{List, [], ◌∷◌, ◌++◌, map}
use mathlib.Core.Logic.{◌⊎◌, ⊎_elim}
use Prim.Native.Nat.{ℕ, ◌+◌, ◌≤◌, ◌<◌}
use native.Mathlib.Omega.{arith}
use lib.Dec.{eqb}
use lib.ListN.{length, get_or, replicate}
use borrow.Author.Tests.{eqb-false}
use Rattle.wire.specs.Packet.{packet_with, packet, zero_byte, packet_text, type_e}
use Rattle.wire.proofs.Tests.{cond-by}
use Rattle.wire.proofs.PacketLaws.{written-text}
use Rattle.messages.specs.Message.Request.{set_parameter}
use Rattle.messages.specs.Text.{request_type, request_text}
use Rattle.messages.specs.Read.{request_in}
use Rattle.messages.proofs.RoundTrips.{request-back}
use Rattle.calls.specs.Board.{Identity, Answer, waiting, begun, idle}
use Rattle.calls.specs.Calls.{is_sound}
use Rattle.calls.specs.Lists.{call, answered, seen, run}
use Rattle.actions.specs.Act.{begins, effect, effect_of, set_effect}
use Rattle.packets.specs.Packets.{holding, BoardState, Addressee, own, all, addressee, to_own, to_all, on_packet_to, on_packet}
use Rattle.board.specs.BoardKind.{byte, gap, does, board_kind}
use Rattle.board.specs.Demand3.{Events, answers_in, erase_request}
use Rattle.board.specs.ByteCalls.{byte_calls}
use Rattle.packets.proofs.IdentityLaws.{named_told}
use Rattle.board.proofs.BoardLaws.{Resting, resting, resting-sound, holds-others, nothing_proper}
use Rattle.board.proofs.Numbers.{erase_text, erase_packet, request-bytes}
use Rattle.board.proofs.PacketFed.{call-done, packet-answered, fed-alike}

-- on or in standby, it begins an erase
erase-begins : (i : Identity) (m : List ℕ) (dest : ℕ) → effect i m (request_in (get_or (erase_packet dest) 4 0) (packet_text (erase_packet dest))) ≡ begins
unfolding erase_packet erase_text packet packet_with request_text request_type effect_of set_effect
erase-begins i m dest =
    rw (written-text dest zero_byte type_e erase_text (omega arith), request-back (set_parameter 0xF0 0x01 1) (omega arith, omega arith, omega arith))

module _ (i : Identity) (m lent : List ℕ) (dest : ℕ) where
  abbrev Begun : Addressee → Type 0
  Begun a = (on_packet_to a i m (erase_packet dest) lent).answer ≡ begun

  own_begins : Begun own
  unfolding on_packet_to to_own
  own_begins = rw (erase-begins i m dest)

  all-begins : Begun all
  unfolding on_packet_to to_all
  all-begins = rw (erase-begins i m dest)

  -- to its ID and to ALL
  packet-begins : (dest ≡ 0x40 + i.id) ⊎ (dest ≡ 0x2A) → (on_packet i m (erase_packet dest) lent).answer ≡ begun
  unfolding on_packet addressee erase_packet packet packet_with
  packet-begins to =
      cond-by Begun (eqb dest (0x40 + i.id)) _ _ (λ _. own_begins)
      (λ t. cond-by Begun (eqb dest 0x2A) _ _ (λ _. all-begins) (λ u. absurd (⊎_elim (eqb-false dest (0x40 + i.id) t) (eqb-false dest 0x2A u) to)))

-- ---- byte by byte

gap-seen : (s : BoardState) (m lent : List ℕ) (es : Events) → is_sound board_kind s m ≡ true → s.erase ≡ idle
    → run board_kind s.ident s m (call gap lent ∷ es) ≡ answered waiting lent m ∷ run board_kind s.ident (holding s.ident []) m es
unfolding run seen does
gap-seen s m lent es h q = rw (call-done gap s m lent refl h q)

request-answered : (i : Identity) (m lent : List ℕ) (dest : ℕ) → Resting i [] m → 64 ≤ length lent → (dest ≡ 0x40 + i.id) ⊎ (dest ≡ 0x2A)
    → answers_in (run board_kind i (holding i []) m (byte_calls (λ _. lent) 0 (erase_request dest))) ≡ replicate 18 waiting ++ (begun ∷ [])
unfolding erase_packet erase_text request_text
request-answered i m lent dest r room to =
    let small : dest < 256 = ⊎_elim (λ e. omega (arith, (named_told i r.named).most)) (λ e. omega arith) to in
    ap (λ (p : List ℕ). answers_in (run board_kind i (holding i []) m (byte_calls (λ _. lent) 0 p))) (sym (request-bytes dest small))
    ∙ packet-answered (holding i []) m (λ _. lent) dest type_e erase_text (resting-sound r) refl refl (λ _. room) refl (omega arith) (omega arith)
    ∙ ap (λ (a : Answer ℕ). replicate 18 waiting ++ (a ∷ [])) (packet-begins i m lent dest to)

pub acceptable : (s : BoardState) (m lent : List ℕ) (dest : ℕ) → is_sound board_kind s m ≡ true → s.erase ≡ idle → 64 ≤ length lent
    → (dest ≡ 0x40 + s.ident.id) ⊎ (dest ≡ 0x2A)
    → answers_in (run board_kind s.ident s m (call gap lent ∷ map (λ (b : ℕ). call (byte b) lent) (erase_request dest))) ≡ replicate 19 waiting ++ (begun ∷ [])
unfolding answers_in
acceptable s m lent dest h q room to =
    ap (λ (es : Events). answers_in (run board_kind s.ident s m (call gap lent ∷ es))) (sym (fed-alike lent 0 (erase_request dest)))
    ∙ ap answers_in (gap-seen s m lent (byte_calls (λ _. lent) 0 (erase_request dest)) h q)
    ∙ ap (λ (l : List (Answer ℕ)). waiting ∷ l) (request-answered s.ident m lent dest (holds-others [] nothing_proper (resting s m q h)) room to)
