-- What a board's value shows: the fresh one of an identity shows that identity and nothing held.
use mathlib.Core.List.{List, [], append_assoc}
use mathlib.Core.Bool.{true}
use mathlib.Core.Path.{◌≡◌, refl}
use Prim.Native.Nat.{ℕ}
use lib.ListN.{length}
use lib.Seq.{take_at}
use Rattle.wire.specs.Refusal.{changes_nothing}
use Rattle.wire.specs.Digits.{octets, padded}
use Rattle.calls.specs.Board.{Identity}
use Rattle.calls.specs.Calls.{refuse}
use Rattle.packets.specs.Packets.{BoardState}
use Rattle.actions.specs.View.{identity_bytes}
use Rattle.board.specs.View.{erase_of, state_of}
use Rattle.board.specs.BoardKind.{Call, byte, gap, board_kind}
use Rattle.board.specs.Values.{fresh_board, erase_from, call_leaves}
use Rattle.board.specs.declared.board.Board.{Board}
use Rattle.board.specs.declared.board.Erase.{Erase}

pub item_shown : (t : List ℕ) → identity_bytes (octets t) ≡ t
unfolding padded
item_shown t = rw append_assoc (take_at t _ (length t) refl)

pub fresh-state : (i : Identity) (e : Erase) → state_of (fresh_board i e) ≡ record { ident = i; held = []; erase = erase_of e }
fresh-state i e = rw (item_shown i.serial, item_shown i.model)

-- a refusal that changes nothing leaves a board's value as it was
pub refusal-leaves : (c : Call) (b : Board) (n : ℕ) (s : BoardState) (lent : List ℕ) → changes_nothing n ≡ true → call_leaves c b (refuse board_kind n s lent) ≡ b
unfolding refuse
refusal-leaves (byte x) b n s lent e = rw e
refusal-leaves gap b n s lent e = refl

pub erase-back : (e : Erase) → erase_from (erase_of e) ≡ e
erase-back Erase.Idle = refl
erase-back (Erase.Pending p owed) = refl
