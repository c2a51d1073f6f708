-- The erase request, given byte by byte to an idle board: its last byte begins an erase, which owes the reply if the board's ID was named.
use mathlib.Core.Path.{◌≡◌, refl, subst}
use mathlib.Core.Bool.{Bool, true, false}
use mathlib.Core.List.{List, [], ◌++◌}
use Prim.Native.Nat.{ℕ, ◌+◌, ◌≤◌, ◌<◌}
use native.Mathlib.Omega.{arith}
use lib.ListN.{length}
use Rattle.wire.specs.Packet.{type_e, packet, length_digits}
use Rattle.wire.proofs.PacketLaws.{written-counted}
use Rattle.messages.specs.Message.Request.{set_parameter}
use Rattle.messages.specs.Text.{request_type, request_text}
use Rattle.messages.specs.Read.{request_in}
use Rattle.calls.specs.Board.{Identity}
use Rattle.calls.specs.Lists.{seen, run}
use Rattle.actions.specs.Act.{begins, set_effect, effect_of, effect}
use Rattle.packets.specs.Packets.{holding, begins_erase, to_own, to_all}
use Rattle.board.specs.BoardKind.{board_kind}
use Rattle.board.specs.Demand3.{Events}
use Rattle.board.specs.ByteCalls.{byte_calls, waits, seen_then}
use Rattle.board.proofs.Numbers.{erase_text, erase_packet, request-bytes}
use Rattle.exchange.specs.Rows.{Ready, BeginsErase}
use Rattle.exchange.proofs.RowLaws.{named, own_seen, all_seen, request_effect}

module _ (i : Identity) (m : List ℕ) (ready : Ready i m) where
  erase-begins : effect i m (request_in type_e erase_text) ≡ begins
  unfolding erase_text request_type effect_of set_effect
  erase-begins = request_effect i m ready.rests (set_parameter 0xF0 0x01 1) (omega arith, omega arith, omega arith) refl

  module _ (lent : ℕ → List ℕ) (room : (k : ℕ) → 64 ≤ length (lent k)) (es : Events) where
    -- a packet is waited on, and begins an erase with its last byte
    abbrev Begins : Bool → List ℕ → Type 0
    Begins owed p = run board_kind i (holding i []) m (byte_calls lent 0 p ++ es) ≡ waits lent m 0 18 ++ seen_then i m (begins_erase i owed (lent 18)) es

    own_begins : Begins true (erase_packet (0x40 + i.id))
    unfolding erase_packet erase_text request_text packet to_own
    own_begins = own_seen i m ready.rests type_e (length_digits erase_text) erase_text (written-counted erase_text) refl (omega arith) (omega arith) lent room es erase-begins

    all-begins : Begins false (erase_packet 0x2A)
    unfolding erase_packet erase_text request_text packet to_all
    all-begins = all_seen i m ready.rests type_e (length_digits erase_text) erase_text (written-counted erase_text) refl (omega arith) (omega arith) lent room es erase-begins

  pub set_erase : BeginsErase i m
  unfolding seen
  set_erase =
      let small : 0x40 + i.id < 256 = omega (arith, (named i m ready.rests).most) in
      record {
        by_id = λ lent room es. subst (Begins lent room es true) (request-bytes (0x40 + i.id) small) (own_begins lent room es);
        by_all = λ lent room es. subst (Begins lent room es false) (request-bytes 0x2A (omega arith)) (all-begins lent room es);
      }
