-- What holds of a board's state as bytes: a board written is read back as it was, and a buffer of another size is refused by every call.
use Prim.Native.Nat.{ℕ}
use mathlib.Core.Bool.{false, cond, ◌&&◌}
use mathlib.Core.List.{List}
use mathlib.Core.Path.{◌≡◌, refl}
use borrow.Author.Tests.{ne_eqb}
use lib.ListN.{length}
use Rattle.calls.specs.Calls.{is_short, refuse, on_call, on_step}
use Rattle.packets.specs.Packets.{is_identity}
use Rattle.board.specs.BoardKind.{Call, lends, board_kind}
use Rattle.board.specs.View.{state_of}
use Rattle.board.specs.Values.{no_board}
use Rattle.board.specs.declared.board.Board.{Board}
use Rattle.board.proofs.StartLaws.{no_id, unnamed_call_refused, unnamed_step_refused}
use Rattle.board_c.specs.State.{board_in, state_bytes, state_in}
use Rattle.board_c.proofs.StateLaws.{back}

pub board-back : (b : Board) → length b.identity.serial.bytes ≡ 16 → length b.identity.model.bytes ≡ 16 → length b.receiver.held ≡ 73 → board_in (state_bytes b) ≡ b
board-back b serial model held = back b (record { serial = serial; model = model; held = held })

-- ---- a buffer of another size

-- what a call and a step give on it: 10 for a short buffer, else 12, and nothing changes
pub record OtherSize (s : List ℕ) : Type 0 where
  pub called : (c : Call) (m lent : List ℕ)
      → on_call board_kind c (state_in s) m lent ≡ refuse board_kind (cond (lends c && is_short lent) 10 12) (state_in s) lent
  pub stepped : (m lent : List ℕ) → on_step board_kind (state_in s) m lent ≡ refuse board_kind (cond (is_short lent) 10 12) (state_in s) lent

no_board_law : (s : List ℕ) → (length s ≡ 111 → ⊥) → board_in s ≡ no_board
unfolding board_in
no_board_law s n = rw (ne_eqb (length s) 111 n)

unnamed : (s : List ℕ) → (length s ≡ 111 → ⊥) → is_identity (state_in s).ident ≡ false
unnamed s n = rw (no_board_law s n) (no_id (state_of no_board).ident refl)

pub other-size_refused : (s : List ℕ) → (length s ≡ 111 → ⊥) → OtherSize s
other-size_refused s n =
    record {
      called = λ c m lent. unnamed_call_refused c (state_in s) m lent (unnamed s n);
      stepped = λ m lent. unnamed_step_refused (state_in s) m lent (unnamed s n);
    }
