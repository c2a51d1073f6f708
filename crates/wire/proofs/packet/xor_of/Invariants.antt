-- What is left to join onto x gives the whole's exclusive or.
use mathlib.Core.List.{List}
use mathlib.Core.Path.{◌≡◌}
use Prim.Native.Nat.{ℕ, ◌≤◌}
use lib.ListN.{length, drop}
use Rattle.wire.specs.Packet.{xor_of, xor_from}
use Rattle.wire.proofs.packet.xor_of.Given as goal

-- x is the exclusive or of the first i bytes
pub record Joined (s : List ℕ) (x i : ℕ) : Type 0 where
  pub within : i ≤ length s
  pub rest : xor_of s ≡ xor_from x (drop i s)

abbrev pub invariant-loop-b : goal.invariant-loop-b
invariant-loop-b l = Joined l.s l.x l.b-index
