-- What a good packet does (docs/RULES.md, RX3 for refusal 8, CA4, AC11 and ER1): whom it addresses, what it stores, and the reply that it gets.
use Rattle.std.specs.Prelude.{Bool, true, false, cond, ◌&&◌, List, [], ◌∷◌, ℕ, leb, eqb, length, get_or}
use Rattle.plan.specs.Stores.{entry}
use Rattle.wire.specs.Packet.{least_id, most_id, address_of, all_address, reply_packet, packet_text, over}
use Rattle.messages.specs.Message.{Reply}
use Rattle.messages.specs.Text.{reply_type, reply_text}
use Rattle.messages.specs.Read.{request_in}
use Rattle.calls.specs.Board.{Identity, Answer, silent, begun, refused, reply, State, Outcome, idle, pending}
use Rattle.calls.specs.Calls.{erase_mark}
use Rattle.actions.specs.Act.{Effect, replies, begins, effect}

-- a board: the bytes held, and whether the last step of its erase owes the reply
abbrev pub BoardState : Type 0
BoardState = State (List ℕ) Bool

-- what a call leaves: a reply's answer tells its length
abbrev pub BoardOutcome : Type 0
BoardOutcome = Outcome BoardState ℕ

abbrev pub holding : Identity → List ℕ → BoardState
holding i held = record { ident = i; held = held; erase = idle }

-- an answer that stores nothing and sends nothing
abbrev pub answers : Answer ℕ → Identity → List ℕ → List ℕ → BoardOutcome
answers a i held lent = record { answer = a; state = holding i held; stores = []; buffer = lent }

-- an ID of 1 to 8, serial number and model of at most 16 bytes
unfoldable pub is_identity : Identity → Bool
is_identity i = leb least_id i.id && leb i.id most_id && leb (length i.serial) 16 && leb (length i.model) 16

-- ---- replies

-- the packet of a reply from the board of an ID
unfoldable pub reply_with : ℕ → Reply → List ℕ
reply_with id r = reply_packet (address_of id) (reply_type r) (reply_text r)

abbrev pub reply_from : Identity → Reply → List ℕ
reply_from i r = reply_with i.id r

-- ---- whom a destination addresses: this board, all boards, or another

pub data Addressee : Type 0 where
  own all another : Addressee

unfoldable pub addressee : (id dest : ℕ) → Addressee
addressee id dest = cond (eqb dest (address_of id)) own (cond (eqb dest all_address) all another)

-- ---- a good packet: what comes of its effect, for this board and for all

-- an erase begins: E7h in byte 0, p = 1, and whether its last step owes the reply
abbrev pub begins_erase : Identity → Bool → List ℕ → BoardOutcome
begins_erase i owed lent =
    record {
      answer = begun;
      state = record { ident = i; held = []; erase = pending 1 owed };
      stores = entry 0 erase_mark ∷ [];
      buffer = lent;
    }

unfoldable pub to_own : Identity → Effect → List ℕ → BoardOutcome
to_own i (replies r es) lent =
    record { answer = reply (length (reply_from i r)); state = holding i []; stores = es; buffer = over (reply_from i r) lent }
to_own i begins lent = begins_erase i true lent

unfoldable pub to_all : Identity → Effect → List ℕ → BoardOutcome
to_all i (replies r es) lent = record { answer = silent; state = holding i []; stores = es; buffer = lent }
to_all i begins lent = begins_erase i false lent

unfoldable pub on_packet_to : Addressee → Identity → List ℕ → List ℕ → List ℕ → BoardOutcome
on_packet_to own i m p lent = to_own i (effect i m (request_in (get_or p 4 0) (packet_text p))) lent
on_packet_to all i m p lent = to_all i (effect i m (request_in (get_or p 4 0) (packet_text p))) lent
on_packet_to another i m p lent = answers (refused 8) i [] lent

unfoldable pub on_packet : Identity → List ℕ → List ℕ → List ℕ → BoardOutcome
on_packet i m p lent = on_packet_to (addressee i.id (get_or p 2 0)) i m p lent
