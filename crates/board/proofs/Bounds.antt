-- What a call or a step may store and send: bytes that a plan and the store can take, and a packet of at most 64 bytes whose length is L + 9.
use mathlib.Core.Path.{◌≡◌, refl}
use mathlib.Core.Bool.{Bool, true, false, ◌&&◌}
use mathlib.Core.List.{List, [], ◌∷◌}
use Prim.Native.Nat.{ℕ, ◌≤◌}
use native.Mathlib.Omega.{arith}
use lib.Dec.{eqb}
use lib.ListN.{length, get_or}
use borrow.Author.Tests.{leb-true, eqb-true}
use Rattle.plan.specs.Stores.{Entry}
use Rattle.plan.specs.Inner.{Committable}
use Rattle.wire.specs.Packet.{size, packet_text, over}
use Rattle.wire.proofs.Tests.{both}
use Rattle.messages.specs.Message.{Reply}
use Rattle.messages.specs.Message.Reply.{set_reply}
use Rattle.messages.specs.Text.{reply_text, parameter_text}
use Rattle.messages.specs.Read.{request_in}
use Rattle.receiver.specs.Receive as receive
use Rattle.calls.specs.Board.{Identity, Answer, waiting, silent, begun, more, ended, refused, reply}
use Rattle.calls.specs.Calls.{clears_at, is_sound_as, is_sound, refuse, on_call, clear_step, end_step, erase_step, on_step}
use Rattle.calls.proofs.Steps.{Called, Stepped, refuses, clears, does, called, stepped, step-clears_or_ends}
use Rattle.actions.specs.Act.{Effect, replies, begins, effect}
use Rattle.packets.specs.Packets.{BoardState, BoardOutcome, is_identity, Addressee, own, all, another, addressee, reply_from, to_own, to_all, on_packet_to, on_packet}
use Rattle.board.specs.BoardKind.{Call, byte, gap, erase_reply, last_answer, last_buffer, on_receipt, board_kind}
use Rattle.board.specs.BoardKind as board
use Rattle.packets.proofs.EffectLaws.{effect-ready}
use Rattle.board.proofs.BoardLaws.{Resting, resting}
use Rattle.packets.proofs.ReplyLaws.{Fitting, reply-length, reply-size, effect-fits}

-- a packet at the start of the lent buffer, and the answer tells its length
pub record Replied (lent : List ℕ) (n : ℕ) (buffer : List ℕ) : Type 0 where
  pub packet : List ℕ
  pub filled : buffer ≡ over packet lent
  pub counted : n ≡ length packet
  -- L + 9
  pub sized : size packet ≡ length packet
  pub few : n ≤ 64

abbrev pub Sends : List ℕ → Answer ℕ → List ℕ → Type 0
Sends lent (reply n) buffer = Replied lent n buffer
Sends lent waiting buffer = buffer ≡ lent
Sends lent silent buffer = buffer ≡ lent
Sends lent begun buffer = buffer ≡ lent
Sends lent more buffer = buffer ≡ lent
Sends lent ended buffer = buffer ≡ lent
Sends lent (refused n) buffer = buffer ≡ lent

-- entries that a plan and the store can take; a reply fills the start of the lent buffer, and every other answer leaves it
pub record Bounded (lent : List ℕ) (o : BoardOutcome) : Type 0 where
  pub ready : Committable 128 o.stores
  pub sends : Sends lent o.answer o.buffer

no_stores : Committable 128 []
no_stores = record { few = omega arith; within = tt }

one_store : (e : Entry) → e.place ≤ 127 → Committable 128 (e ∷ [])
one_store e h = record { few = omega arith; within = (omega arith, tt) }

reply-sent : (i : Identity) (r : Reply) (lent : List ℕ) → Fitting r → Replied lent (length (reply_from i r)) (over (reply_from i r) lent)
reply-sent i r lent f =
    record { packet = reply_from i r; filled = refl; counted = refl; sized = reply-size i r (omega arith); few = omega (arith, reply-length i r) }

-- ---- a call

module _ (s : BoardState) (m lent : List ℕ) (r : Resting s.ident s.held m) where
  packet-bounded : (p : List ℕ) (to : Addressee) (x : Effect) → effect s.ident m (request_in (get_or p 4 0) (packet_text p)) ≡ x
      → Bounded lent (on_packet_to to s.ident m p lent)
  unfolding on_packet_to to_own to_all
  packet-bounded p own (replies w es) is =
      rw is (record {
        ready = effect-ready s.ident m (get_or p 4 0) (packet_text p) r.size r.ranged is;
        sends = reply-sent s.ident w lent (effect-fits s.ident m (get_or p 4 0) (packet_text p) r.named r.ranged is);
      })
  packet-bounded p own begins is = rw is (record { ready = one_store _ (omega arith); sends = refl })
  packet-bounded p all (replies w es) is =
      rw is (record { ready = effect-ready s.ident m (get_or p 4 0) (packet_text p) r.size r.ranged is; sends = refl })
  packet-bounded p all begins is = rw is (record { ready = one_store _ (omega arith); sends = refl })
  packet-bounded p another x is = record { ready = no_stores; sends = refl }

  receipt-bounded : (a : receive.Reception) (held : List ℕ) → Bounded lent (on_receipt a held s.ident m lent)
  unfolding on_receipt on_packet
  receipt-bounded receive.waiting held = record { ready = no_stores; sends = refl }
  receipt-bounded (receive.refused n) held = record { ready = no_stores; sends = refl }
  receipt-bounded (receive.whole p) held = packet-bounded p (addressee s.ident.id (get_or p 2 0)) _ refl

  done-bounded : (c : Call) → Bounded lent (board.does c s m lent)
  unfolding board.does
  done-bounded (byte b) = receipt-bounded _ _
  done-bounded gap = record { ready = no_stores; sends = refl }

refusal-bounded : (n : ℕ) (s : BoardState) (lent : List ℕ) → Bounded lent (refuse board_kind n s lent)
unfolding refuse
refusal-bounded n s lent = record { ready = no_stores; sends = refl }

pub call-bounded : (c : Call) (s : BoardState) (m lent : List ℕ) → Bounded lent (on_call board_kind c s m lent)
call-bounded c s m lent = go (called board_kind c s m lent)
  where
    go : Called board_kind c s m lent (on_call board_kind c s m lent) → Bounded lent (on_call board_kind c s m lent)
    go (refuses n e) = rw e (refusal-bounded n s lent)
    go (does q h e) = rw e (done-bounded s m lent (resting s m q h) c)

-- ---- a step

last-sends : (i : Identity) (owed : Bool) (lent : List ℕ) → Sends lent (last_answer i owed) (last_buffer i owed lent)
unfolding erase_reply reply_text parameter_text
last-sends i true lent = reply-sent i (set_reply 0 0xF0 0x01 1 1 1) lent (omega arith)
last-sends i false lent = refl

clear_bounded : (p : ℕ) (owed : Bool) (s : BoardState) (lent : List ℕ) → Bounded lent (erase_step board_kind p owed s lent)
unfolding clear_step end_step clears_at
clear_bounded p owed s lent =
    step-clears_or_ends board_kind (Bounded lent) p owed s lent
    (λ t. record { ready = one_store _ (leb-true p 127 t); sends = refl })
    (λ t. record { ready = one_store _ (omega arith); sends = last-sends s.ident owed lent })

pub step-bounded : (s : BoardState) (m lent : List ℕ) → Bounded lent (on_step board_kind s m lent)
step-bounded s m lent = go (stepped board_kind s m lent)
  where
    go : Stepped board_kind s m lent (on_step board_kind s m lent) → Bounded lent (on_step board_kind s m lent)
    go (refuses n e) = rw e (refusal-bounded n s lent)
    go (clears p owed q h e) = rw e (clear_bounded p owed s lent)

-- ---- plans of what they store, on any store: one that has not 128 bytes is not sound, and nothing is stored

sound-size : (s : BoardState) (m : List ℕ) → is_sound board_kind s m ≡ true → length m ≡ 128
unfolding is_sound
sound-size s m h =
    eqb-true _ _ (both (is_identity s.ident) (eqb (length m) 128) (both (is_identity s.ident && eqb (length m) 128) (is_sound_as board_kind s.erase s.held m) h).0).1

nothing-committable : (n : ℕ) → Committable n []
nothing-committable n = record { few = omega arith; within = tt }

pub call-committable : (c : Call) (s : BoardState) (m lent : List ℕ) → Committable (length m) (on_call board_kind c s m lent).stores
unfolding refuse
call-committable c s m lent = go (called board_kind c s m lent)
  where
    go : Called board_kind c s m lent (on_call board_kind c s m lent) → Committable (length m) (on_call board_kind c s m lent).stores
    go (refuses n e) = rw e (nothing-committable (length m))
    go (does q h e) = rw (sound-size s m h) (call-bounded c s m lent).ready

pub step-committable : (s : BoardState) (m lent : List ℕ) → Committable (length m) (on_step board_kind s m lent).stores
unfolding refuse
step-committable s m lent = go (stepped board_kind s m lent)
  where
    go : Stepped board_kind s m lent (on_step board_kind s m lent) → Committable (length m) (on_step board_kind s m lent).stores
    go (refuses n e) = rw e (nothing-committable (length m))
    go (clears p owed q h e) = rw (sound-size s m h) (step-bounded s m lent).ready
