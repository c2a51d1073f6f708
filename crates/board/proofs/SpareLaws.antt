-- Spare bits and bytes: no call but an erase step touches them.
use mathlib.Core.List.{List}
use mathlib.Core.Path.{◌≡◌, refl}
use Prim.Native.Nat.{ℕ}
use lib.ListN.{get_or}
use Rattle.wire.specs.Packet.{packet_text}
use Rattle.messages.specs.Read.{request_in}
use Rattle.receiver.specs.Receive as receive
use Rattle.layouts.proofs.SpareLaws.{SpareKept, spare_same, spare_mark}
use Rattle.calls.specs.Board.{after}
use Rattle.calls.specs.Calls.{refuse, on_call}
use Rattle.calls.proofs.Steps.{Called, refuses, does, called}
use Rattle.actions.specs.Act.{Effect, replies, begins, effect}
use Rattle.packets.specs.Packets.{BoardState, Addressee, own, all, another, addressee, to_own, to_all, on_packet_to, on_packet}
use Rattle.packets.proofs.EffectLaws.{effect-keeps}
use Rattle.board.specs.BoardKind.{Call, byte, gap, on_receipt, board_kind}
use Rattle.board.specs.BoardKind as board
use Rattle.board.proofs.BoardLaws.{Resting, resting}

module _ (s : BoardState) (m lent : List ℕ) (r : Resting s.ident s.held m) where
  packet-keeps : (p : List ℕ) (to : Addressee) (x : Effect) → effect s.ident m (request_in (get_or p 4 0) (packet_text p)) ≡ x
      → SpareKept m (after (on_packet_to to s.ident m p lent) m)
  unfolding on_packet_to to_own to_all
  packet-keeps p own (replies w es) is = rw is (effect-keeps s.ident m (get_or p 4 0) (packet_text p) r.size r.ranged is).spare
  packet-keeps p own begins is = rw is (spare_mark m _)
  packet-keeps p all (replies w es) is = rw is (effect-keeps s.ident m (get_or p 4 0) (packet_text p) r.size r.ranged is).spare
  packet-keeps p all begins is = rw is (spare_mark m _)
  packet-keeps p another x is = spare_same m

  receipt-keeps : (a : receive.Reception) (held : List ℕ) → SpareKept m (after (on_receipt a held s.ident m lent) m)
  unfolding on_receipt on_packet
  receipt-keeps receive.waiting held = spare_same m
  receipt-keeps (receive.refused n) held = spare_same m
  receipt-keeps (receive.whole p) held = packet-keeps p (addressee s.ident.id (get_or p 2 0)) _ refl

  done-keeps : (c : Call) → SpareKept m (after (board.does c s m lent) m)
  unfolding board.does
  done-keeps (byte b) = receipt-keeps _ _
  done-keeps gap = spare_same m

pub call-keeps_spare : (c : Call) (s : BoardState) (m lent : List ℕ) → SpareKept m (after (on_call board_kind c s m lent) m)
unfolding refuse
call-keeps_spare c s m lent = go (called board_kind c s m lent)
  where
    go : Called board_kind c s m lent (on_call board_kind c s m lent) → SpareKept m (after (on_call board_kind c s m lent) m)
    go (refuses n e) = rw e (spare_same m)
    go (does q h e) = rw e (done-keeps s m lent (resting s m q h) c)
