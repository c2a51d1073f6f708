-- What inner functions ask and give. No contract of an entry point cites it.
use Rattle.std.specs.Prelude.{Bool, true, false, cond, not, ◌&&◌, List, [], ◌≡◌, ℕ, ◌≤◌, leb, eqb, length, take, Result, Ok, Err}
use Rattle.wire.specs.Packet.{least_id, most_id, most_packet, least_buffer}
use Rattle.wire.specs.Inner.{Whole}
use Rattle.wire.specs.Refusal.{number_of}
use Rattle.wire.specs.declared.refusal.Refusal.{Refusal}
use Rattle.plan.specs.Stores.{Entry}
use Rattle.plan.specs.Plans.{stores_of}
use Rattle.receiver.specs.View.{held_of}
use Rattle.receiver.specs.Inner.{asked}
use Rattle.layouts.specs.Layouts.{in_range, is_layout, fits_layout, unused_store}
use Rattle.calls.specs.Board as calls
use Rattle.calls.specs.Board.{Started, board, start_refused}
use Rattle.calls.specs.Calls.{mark, erase_mark, first_bytes, same, is_sound}
use Rattle.packets.specs.Packets.{BoardState, BoardOutcome}
use Rattle.packets.specs.Inner.{Addressed}
use Rattle.board.specs.BoardKind.{board_kind}
use Rattle.board.specs.View.{erase_of, state_of}
use Rattle.board.specs.Values.{fresh_board, erase_from}
use Rattle.board.specs.declared.board.Erase.{Erase}
use Rattle.board.specs.declared.board.Board.{Board}
use Rattle.board.specs.declared.board.Answer.{Answer}
use Rattle.board.specs.declared.board.Planned.{Planned}

-- ---- soundness

-- an identity in range, by its ID and the counts of serial number and model
abbrev pub identity_fits : ℕ → ℕ → ℕ → Bool
identity_fits id serial model = leb least_id id && leb id most_id && leb serial 16 && leb model 16

-- a pending erase: its mark, nothing held, place 1 to 128, bytes 1 to p - 1 as unused
abbrev pub pending_fits : ℕ → ℕ → List ℕ → Bool
pending_fits len place m =
    eqb (mark m) erase_mark && eqb len 0 && leb 1 place && leb place 128 && same (first_bytes place m) (first_bytes place unused_store)

-- none pending: the unused mark, fields in range, and held bytes that ask for more, which only a proper beginning does
abbrev pub idle_fits : ℕ → List ℕ → Bool
idle_fits wanted m = eqb (mark m) (mark unused_store) && in_range m && not (eqb wanted 0)

-- how many bytes are held, and how many they ask for
abbrev pub erase_fits : ℕ → ℕ → Erase → List ℕ → Bool
erase_fits len wanted Erase.Idle m = idle_fits wanted m
erase_fits len wanted (Erase.Pending place owed) m = pending_fits len place m

abbrev pub sound_fits : ℕ → ℕ → ℕ → ℕ → ℕ → Erase → List ℕ → Bool
sound_fits id serial model len wanted e m = identity_fits id serial model && (eqb (length m) 128 && erase_fits len wanted e m)

-- ---- a start

-- the refusal, or the erase that the board begins with, where the identity is in range or not; what is stored is not told
abbrev pub start_state : List ℕ → Bool → Started (calls.Erase Bool)
start_state m named =
    cond (eqb (length m) 128 && eqb (mark m) erase_mark) (cond named (board (calls.pending 1 false) []) (start_refused 12))
    (cond (eqb (length m) 128 && is_layout (mark m)) (cond (named && fits_layout m) (board calls.idle []) (start_refused 12))
    (start_refused 11))

abbrev pub start_state_as : Result Erase Refusal → Started (calls.Erase Bool)
start_state_as (Ok e) = board (erase_of e) []
start_state_as (Err r) = start_refused (number_of r)

-- ---- what the calls behind the entry check ask

-- the lengths of a board's arrays, which their types give
pub record Sized (b : Board) : Type 0 where
  pub serial : length b.identity.serial.bytes ≡ 16
  pub model : length b.identity.model.bytes ≡ 16
  pub held : length b.receiver.held ≡ most_packet

-- a sound board with no erase pending, whose held bytes ask for so many, and a buffer for the reply
pub record Accepting (b : Board) (wanted : ℕ) (m lent : List ℕ) : Type 0 where
  pub sound : is_sound board_kind (state_of b) m ≡ true
  pub idle : b.erase ≡ Erase.Idle
  pub wants : wanted ≡ asked (held_of b.receiver)
  pub sized : Sized b
  pub room : least_buffer ≤ length lent

-- an ID in range, nothing held, and a buffer for the reply
pub record Erasing (b : Board) (lent : List ℕ) : Type 0 where
  pub known : b.identity.id ≤ most_id
  pub none : b.receiver.len ≡ 0
  pub room : least_buffer ≤ length lent

-- a board whose receiver has given out the first n bytes of its array
pub record Acting (b : Board) (n : ℕ) (m lent : List ℕ) : Type 0 where
  pub addressed : Addressed b.identity m lent
  pub sized : Sized b
  pub idle : b.erase ≡ Erase.Idle
  pub none : b.receiver.len ≡ 0
  pub within : n ≤ most_packet
  pub whole : Whole (take n b.receiver.held)

-- ---- what they give

-- a board and an answer, with a plan of these entries
pub record Planning (p : Planned) (b : Board) (a : Answer) (es : List Entry) : Type 0 where
  pub board : p.board ≡ b
  pub answer : p.answer ≡ a
  pub stores : stores_of p.plan ≡ es

-- a packet leaves the board as it is, but where it begins an erase
abbrev pub packet_leaves_by : Board → BoardState → calls.Answer ℕ → Board
packet_leaves_by b s calls.waiting = b
packet_leaves_by b s calls.silent = b
packet_leaves_by b s calls.begun = fresh_board s.ident (erase_from s.erase)
packet_leaves_by b s calls.more = b
packet_leaves_by b s calls.ended = b
packet_leaves_by b s (calls.refused n) = b
packet_leaves_by b s (calls.reply n) = b

abbrev pub packet_leaves : Board → BoardOutcome → Board
packet_leaves b o = packet_leaves_by b o.state o.answer
