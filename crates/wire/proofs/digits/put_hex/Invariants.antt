-- After i turns the digits of the first i bytes are pasted, and each turn pastes two more.
use mathlib.Core.List.{List}
use mathlib.Core.Path.{◌≡◌}
use Prim.Native.Nat.{ℕ, ◌+◌, ◌≤◌}
use lib.ListN.{length}
use lib.Seq.{paste}
use Rattle.wire.specs.Digits.{hex_of}
use Rattle.wire.proofs.digits.put_hex.Given as goal

-- the digits of the first i bytes of s stand at a place
pub record Pasted (out₀ : List ℕ) (at : ℕ) (s out : List ℕ) (i : ℕ) : Type 0 where
  pub within : i ≤ length s
  pub room : at + (length s + length s) ≤ length out₀
  pub kept : length out ≡ length out₀
  pub is : out ≡ paste out₀ at (hex_of s) (i + i)

abbrev pub invariant-loop-i : goal.invariant-loop-i
invariant-loop-i l = Pasted l.initial.out l.at l.s l.out l.i
