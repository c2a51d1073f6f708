-- A start that C gets refused, by the board's checks or for a state buffer of another size, leaves store and state as they were.
use mathlib.Core.List.{List}
use mathlib.Core.Logic.{◌≢◌}
use mathlib.Core.Path.{◌≡◌, refl}
use Prim.Native.Nat.{ℕ}
use borrow.Author.Tests.{ne_eqb}
use Rattle.calls.specs.Board.{Started, board, start_refused}
use Rattle.packets.specs.Packets.{BoardState}
use Rattle.board.specs.Values.{store_started}
use Rattle.board_c.specs.Exports.{start_in, start_result, state_started}

pub record KeepsAll (o : Started BoardState) (state store : List ℕ) : Type 0 where
  pub bytes : state_started o state ≡ state
  pub stored : store_started o store ≡ store

pub another_size_keeps : (size : ℕ) (o : Started BoardState) (state store : List ℕ) → size ≢ 111 → KeepsAll (start_in size o) state store
unfolding start_in
another_size_keeps size (board s es) state store h = rw (ne_eqb size 111 h) (record { bytes = refl; stored = refl })
another_size_keeps size (start_refused n) state store h = record { bytes = refl; stored = refl }

pub refused-keeps : (o : Started BoardState) (state store : List ℕ) → start_result o ≢ 0 → KeepsAll o state store
refused-keeps (board s es) state store h = absurd (h refl)
refused-keeps (start_refused n) state store h = record { bytes = refl; stored = refl }
