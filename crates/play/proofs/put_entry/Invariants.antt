-- After i turns the log begins with the two numbers and the store's first i bytes, and each turn writes one more.
use Prim.Native.Nat.{ℕ, ◌+◌, ◌≤◌}
use mathlib.Core.List.{List, ◌∷◌}
use mathlib.Core.Path.{◌≡◌}
use lib.ListN.{length, take}
use Rattle.wire.specs.Packet.{over}
use Rattle.play.proofs.put_entry.Given as goal

-- the two numbers and the store's first i bytes
abbrev pub written : ℕ → ℕ → List ℕ → ℕ → List ℕ
written kind number store i = kind ∷ number ∷ take i store

pub record Writes (kind number : ℕ) (store log₀ log : List ℕ) (i : ℕ) : Type 0 where
  pub within : i ≤ length store
  pub room : length store + 2 ≤ length log₀
  pub kept : length log ≡ length log₀
  pub front : log ≡ over (written kind number store i) log₀

abbrev pub invariant-loop-i : goal.invariant-loop-i
invariant-loop-i l = Writes l.kind l.number l.store l.initial.log l.log l.i
