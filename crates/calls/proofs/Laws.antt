-- What a kind of board must keep so that demand 3 holds of it.
use mathlib.Core.Path.{◌≡◌}
use mathlib.Core.Bool.{true}
use mathlib.Core.List.{List, [], ◌∷◌}
use mathlib.Core.Logic.{◌⊎◌, ◌≢◌}
use Prim.Native.Nat.{ℕ}
use lib.ListN.{length}
use Rattle.plan.specs.Stores.{entry}
use Rattle.calls.specs.Board.{Identity, begun, idle, board, after}
use Rattle.calls.specs.Kind.{Kind}
use Rattle.calls.specs.Calls.{mark, erase_mark, Board, Left, at_rest, erasing, is_sound}

-- a store on which a start gives a board at rest
pub record Startable (K : Kind) (i : Identity) (m : List ℕ) : Type 0 where
  -- the identity is in range
  pub named : K.is_identity i ≡ true
  -- there are 128 bytes
  pub size : length m ≡ 128
  -- byte 0 is an unused board's
  pub marked : mark m ≡ mark K.unused
  -- each field is in range
  pub ranged : K.in_range m ≡ true

-- the board that a call leaves is sound on the store that it leaves
abbrev pub Kept : (K : Kind) → List ℕ → Left K → Type 0
Kept K m o = is_sound K o.state (after o m) ≡ true

-- what a call leaves that begins no erase
pub record Settles (K : Kind) (m : List ℕ) (o : Left K) : Type 0 where
  -- a sound board
  pub kept : Kept K m o
  -- and another answer than erase begun
  pub not_begun : o.answer ≢ begun

-- what a call leaves that begins an erase
pub record Begins (K : Kind) (c : K.Call) (s : Board K) (lent : List ℕ) (o : Left K) : Type 0 where
  -- nothing held, and an erase pending at place 1
  pub state_is : o.state ≡ erasing K s.ident 1 (K.owes c s)
  -- E7h stored in byte 0, and nothing else
  pub stores_is : o.stores ≡ entry 0 erase_mark ∷ []
  -- the lent buffer as it was
  pub buffer_is : o.buffer ≡ lent

pub record Laws (K : Kind) : Type 0 where
  -- an unused board has 128 bytes
  pub size : length K.unused ≡ 128
  -- its mark is not that of a pending erase
  pub other_mark : mark K.unused ≢ erase_mark
  -- each of its fields is in range
  pub ranged : K.in_range K.unused ≡ true
  -- nothing held is told as nothing
  pub nothing_yes : K.is_nothing K.nothing ≡ true
  -- only nothing held is told as nothing
  pub nothing_is : (h : K.Held) → K.is_nothing h ≡ true → h ≡ K.nothing
  -- nothing held is a proper beginning
  pub nothing_proper : K.is_proper K.nothing ≡ true
  -- a start on a store in range gives a board at rest and stores nothing
  pub starts : (i : Identity) (m : List ℕ) → Startable K i m → K.start_other i m ≡ board (at_rest K i) []
  -- a call on a sound board with no erase pending leaves a sound board, or begins an erase
  pub acts : (c : K.Call) (s : Board K) (m lent : List ℕ) → s.erase ≡ idle → is_sound K s m ≡ true
      → Settles K m (K.does c s m lent) ⊎ Begins K c s lent (K.does c s m lent)
