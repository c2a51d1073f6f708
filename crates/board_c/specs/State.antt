-- A board's state as 111 bytes (docs/RULES.md, XB1): ID; serial number and model, each a count and 16 bytes; how many bytes are held, and 73 places for them;
-- the erase: 0 for none pending, 1 for one pending, 2 for one whose last step owes the reply; its next place.
use Rattle.std.specs.Prelude.{true, false, cond, List, [], ◌∷◌, ◌++◌, ℕ, eqb, length, get_or, take, drop}
use Rattle.wire.specs.Packet.{most_packet}
use Rattle.wire.specs.declared.digits.Octets.{Octets}
use Rattle.packets.specs.Packets.{BoardState}
use Rattle.calls.specs.Board.{place_of}
use Rattle.board.specs.View.{erase_of, state_of}
use Rattle.board.specs.Values.{no_board}
use Rattle.board.specs.declared.board.Board.{Board}
use Rattle.board.specs.declared.board.Erase.{Erase}

abbrev pub erase_kind : Erase → ℕ
erase_kind Erase.Idle = 0
erase_kind (Erase.Pending place false) = 1
erase_kind (Erase.Pending place true) = 2

-- another kind is no erase: pending at place 0, which is not sound
unfoldable pub erase_in : ℕ → ℕ → Erase
erase_in kind place =
    cond (eqb kind 0) Erase.Idle
    (cond (eqb kind 1) (Erase.Pending place false)
    (cond (eqb kind 2) (Erase.Pending place true)
    (Erase.Pending 0 false)))

-- a count and 16 bytes
abbrev pub counted_item : Octets → List ℕ
counted_item t = t.count ∷ t.bytes

abbrev pub item_in : List ℕ → Octets
item_in s = record { count = get_or s 0 0; bytes = take 16 (drop 1 s) }

unfoldable pub state_bytes : Board → List ℕ
state_bytes b =
    b.identity.id
    ∷ (counted_item b.identity.serial
    ++ (counted_item b.identity.model ++ (b.receiver.len ∷ (b.receiver.held ++ (erase_kind b.erase ∷ place_of (erase_of b.erase) ∷ [])))))

-- a buffer of another size holds no board: the one that every call refuses
unfoldable pub board_in : List ℕ → Board
board_in s =
    cond (eqb (length s) 111)
    (record {
      identity = record { id = get_or s 0 0; serial = item_in (drop 1 s); model = item_in (drop 18 s) };
      receiver = record { held = take most_packet (drop 36 s); len = get_or s 35 0 };
      erase = erase_in (get_or s 109 0) (get_or s 110 0);
    })
    no_board

-- the board as it is seen
abbrev pub state_in : List ℕ → BoardState
state_in s = state_of (board_in s)
