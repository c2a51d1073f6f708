-- The board as one kind (docs/RULES.md, 'Receiver', 'Store' and 'Erase and start'): one receiver, IDs 1 to 8, the store of `layouts`.
use Rattle.std.specs.Prelude.{Bool, true, false, cond, ◌&&◌, List, [], ◌∷◌, ◌++◌, ℕ, eqb, length, get_or}
use Rattle.wire.specs.Packet.{address_of, over}
use Rattle.messages.specs.Message.Reply.{set_reply}
use Rattle.receiver.specs.Receive as receive
use Rattle.layouts.specs.Layouts.{in_range, is_layout, fits_layout, conversion, unused_store}
use Rattle.calls.specs.Board.{Identity, Answer, waiting, ended, refused, reply, Started, board, start_refused}
use Rattle.calls.specs.Kind.{Kind}
use Rattle.calls.specs.Calls.{mark}
use Rattle.actions.specs.Act.{erase_page, erase_code}
use Rattle.packets.specs.Packets.{BoardState, BoardOutcome, holding, answers, is_identity, reply_from, on_packet}

-- a byte, or a gap
pub data Call : Type 0 where
  byte : ℕ → Call
  gap : Call

-- ---- what the receiver makes of a byte

unfoldable pub on_receipt : receive.Reception → List ℕ → Identity → List ℕ → List ℕ → BoardOutcome
on_receipt receive.waiting held i m lent = answers waiting i held lent
on_receipt (receive.refused n) held i m lent = answers (refused n) i held lent
on_receipt (receive.whole p) held i m lent = on_packet i m p lent

unfoldable pub does : Call → BoardState → List ℕ → List ℕ → BoardOutcome
does (byte b) s m lent = on_receipt (receive.accept s.held b).answer (receive.accept s.held b).held s.ident m lent
does gap s m lent = answers waiting s.ident [] lent

-- ---- the kind

-- the packet that a byte completes went to the own address: as `to_own` and `to_all` say it, and asked by the laws of a kind alone
unfoldable pub owes : Call → BoardState → Bool
owes (byte b) s = eqb (get_or (s.held ++ (b ∷ [])) 2 0) (address_of s.ident.id)
owes gap s = false

abbrev pub lends : Call → Bool
lends (byte b) = true
lends gap = false

abbrev pub is_none : List ℕ → Bool
is_none held = eqb (length held) 0

-- the Set reply of the erase (ER3): result 00, F0/01, type 01, max 1, value 1
unfoldable pub erase_reply : Identity → List ℕ
erase_reply i = reply_from i (set_reply 0 erase_page erase_code 1 1 1)

abbrev pub last_answer : Identity → Bool → Answer ℕ
last_answer i true = reply (length (erase_reply i))
last_answer i false = ended

abbrev pub last_buffer : Identity → Bool → List ℕ → List ℕ
last_buffer i true lent = over (erase_reply i) lent
last_buffer i false lent = lent

-- refusal 11, then 12; an older store is converted
unfoldable pub start_other : Identity → List ℕ → Started BoardState
start_other i m =
    cond (eqb (length m) 128 && is_layout (mark m))
    (cond (is_identity i && fits_layout m) (board (holding i []) (conversion m)) (start_refused 12))
    (start_refused 11)

abbrev pub board_kind : Kind
board_kind =
    record {
      Held = List ℕ;
      Owed = Bool;
      Sent = ℕ;
      Call = Call;
      is_identity = is_identity;
      unused = unused_store;
      in_range = in_range;
      nothing = [];
      is_nothing = is_none;
      is_proper = receive.is_proper_beginning;
      none_owed = false;
      last_answer = last_answer;
      last_buffer = last_buffer;
      lends = lends;
      does = does;
      owes = owes;
      start_other = start_other;
    }
