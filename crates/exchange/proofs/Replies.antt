-- A board replies to a packet for itself, with the reply of its effect, and on the last step of an erase: the station reads both.
use mathlib.Core.Path.{◌≡◌, refl, subst}
use mathlib.Core.Bool.{Bool, true, false, ◌&&◌}
use mathlib.Core.List.{List, [], ◌∷◌, ◌++◌}
use Prim.Native.Nat.{ℕ}
use native.Mathlib.Omega.{arith}
use lib.Dec.{eqb}
use lib.ListN.{length, get_or}
use Rattle.wire.specs.Packet.{packet_text}
use Rattle.messages.specs.Message.Reply.{set_reply}
use Rattle.messages.specs.Read.{request_in}
use Rattle.receiver.specs.Receive as receive
use Rattle.wire.proofs.Tests.{both}
use Rattle.calls.specs.Board.{Identity, Answer, waiting, silent, begun, more, ended, refused, reply}
use Rattle.calls.specs.Calls.{is_sound_as, is_sound, refuse, on_call, on_step, clear_step, end_step}
use Rattle.calls.proofs.Steps.{Called, Stepped, refuses, clears, does, called, stepped, step-clears_or_ends}
use Rattle.actions.specs.Act.{Effect, replies, begins, effect}
use Rattle.board.specs.BoardKind as board
use Rattle.packets.specs.Packets.{BoardState, BoardOutcome, is_identity, Addressee, own, all, another, addressee, to_own, to_all, on_packet_to, on_packet}
use Rattle.board.specs.BoardKind.{byte, on_receipt, erase_reply, last_answer, last_buffer, board_kind}
use Rattle.packets.proofs.IdentityLaws.{Named, named_told}
use Rattle.board.proofs.BoardLaws.{Resting, resting, whole_is}
use Rattle.exchange.specs.Rows.{InBytes}
use Rattle.exchange.specs.Demand2.{IsRead, RepliesTo}
use Rattle.exchange.proofs.ReplyLaws.{effect_sayable, reply-is_read}

-- what holds of the length that a reply tells
abbrev Tells : (ℕ → Type 0) → Answer ℕ → Type 0
Tells P (reply n) = P n
Tells P waiting = Unit {0}
Tells P silent = Unit {0}
Tells P begun = Unit {0}
Tells P more = Unit {0}
Tells P ended = Unit {0}
Tells P (refused n) = Unit {0}

-- and of the outcome of the call
abbrev Leaves : (ℕ → BoardOutcome → Type 0) → BoardOutcome → Type 0
Leaves P o = Tells (λ n. P n o) o.answer

refusal-leaves : (P : ℕ → BoardOutcome → Type 0) (n : ℕ) (s : BoardState) (lent : List ℕ) → Leaves P (refuse board_kind n s lent)
unfolding refuse
refusal-leaves P n s lent = tt

-- ---- a byte

module _ (s : BoardState) (m lent : List ℕ) (b : InBytes s.ident m) where
  -- the reply to the request in a packet
  abbrev Replying : List ℕ → ℕ → BoardOutcome → Type 0
  Replying p n o = RepliesTo s.ident m p n lent o

  module _ (r : Resting s.ident s.held m) where
    packet-replies : (p : List ℕ) (to : Addressee) (x : Effect) → effect s.ident m (request_in (get_or p 4 0) (packet_text p)) ≡ x
        → Leaves (Replying p) (on_packet_to to s.ident m p lent)
    unfolding on_packet_to to_own to_all
    packet-replies p own (replies w es) is =
        let n = named_told s.ident r.named in
        let sayable = effect_sayable s.ident m b n r.ranged (get_or p 4 0) (packet_text p) is in
        rw is (record { said = w; effected = is; intact = reply-is_read s.ident n w sayable lent })
    packet-replies p own begins is = rw is tt
    packet-replies p all (replies w es) is = rw is tt
    packet-replies p all begins is = rw is tt
    packet-replies p another x is = tt

    receipt-replies : (p : List ℕ) (a : receive.Reception) (held : List ℕ) → ((q : List ℕ) → a ≡ receive.whole q → p ≡ q)
        → Leaves (Replying p) (on_receipt a held s.ident m lent)
    unfolding on_receipt on_packet
    receipt-replies p receive.waiting held f = tt
    receipt-replies p (receive.refused n) held f = tt
    receipt-replies p (receive.whole q) held f = rw (f q refl) (packet-replies q (addressee s.ident.id (get_or q 2 0)) _ refl)

    byte-replies : (x : ℕ) → Leaves (Replying (s.held ++ (x ∷ []))) (board.does (byte x) s m lent)
    unfolding board.does
    byte-replies x = receipt-replies (s.held ++ (x ∷ [])) _ _ (whole_is s.held x)

pub replies_read : (b : ℕ) (s : BoardState) (m lent : List ℕ) (n : ℕ) → InBytes s.ident m → (on_call board_kind (byte b) s m lent).answer ≡ reply n
    → RepliesTo s.ident m (s.held ++ (b ∷ [])) n lent (on_call board_kind (byte b) s m lent)
replies_read b s m lent n h e =
    subst (Tells (λ n. Replying s m lent h p n (on_call board_kind (byte b) s m lent))) e (go (called board_kind (byte b) s m lent))
  where
    p : List ℕ
    p = s.held ++ (b ∷ [])

    go : Called board_kind (byte b) s m lent (on_call board_kind (byte b) s m lent) → Leaves (Replying s m lent h p) (on_call board_kind (byte b) s m lent)
    go (refuses k q) = rw q (refusal-leaves (Replying s m lent h p) k s lent)
    go (does q t o) = rw o (byte-replies s m lent h (resting s m q t) b)

-- ---- the last step of an erase

sound-named : (s : BoardState) (m : List ℕ) → is_sound board_kind s m ≡ true → Named s.ident
unfolding is_sound
sound-named s m h =
    named_told s.ident
    (both (is_identity s.ident) (eqb (length m) 128)
    (both (is_identity s.ident && eqb (length m) 128) (is_sound_as board_kind s.erase s.held m) h).0).0

-- the reply of the erase
abbrev Ending : ℕ → List ℕ → ℕ → BoardOutcome → Type 0
Ending id lent n o = IsRead id n (set_reply 0 0xF0 0x01 1 1 1) lent o.buffer

last-replies : (i : Identity) (owed : Bool) (lent : List ℕ) → Named i
    → Tells (λ n. IsRead i.id n (set_reply 0 0xF0 0x01 1 1 1) lent (last_buffer i owed lent)) (last_answer i owed)
unfolding erase_reply
last-replies i true lent n =
    reply-is_read i n (set_reply 0 0xF0 0x01 1 1 1)
    (record { result = omega arith; page = omega arith; code = omega arith; operation = omega arith; largest = omega arith; value = omega arith }) lent
last-replies i false lent n = tt

pub erase_read : (s : BoardState) (m lent : List ℕ) (n : ℕ) → (on_step board_kind s m lent).answer ≡ reply n
    → IsRead s.ident.id n (set_reply 0 0xF0 0x01 1 1 1) lent (on_step board_kind s m lent).buffer
unfolding clear_step end_step
erase_read s m lent n e =
    subst (Tells (λ n. Ending s.ident.id lent n (on_step board_kind s m lent))) e (go (stepped board_kind s m lent))
  where
    go : Stepped board_kind s m lent (on_step board_kind s m lent) → Leaves (Ending s.ident.id lent) (on_step board_kind s m lent)
    go (refuses k q) = rw q (refusal-leaves (Ending s.ident.id lent) k s lent)
    go (clears p owed q h o) =
        rw o
        (step-clears_or_ends board_kind (Leaves (Ending s.ident.id lent)) p owed s lent (λ _. tt)
        (λ _. last-replies s.ident owed lent (sound-named s m h)))
