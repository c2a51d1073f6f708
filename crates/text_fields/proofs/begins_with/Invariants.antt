-- After i turns the first i bytes are the same, so that the rest decides.
use mathlib.Core.List.{List}
use mathlib.Core.Path.{◌≡◌}
use Prim.Native.Nat.{ℕ, ◌≤◌}
use lib.ListN.{length, drop}
use Rattle.messages.specs.Read.{begins_with}
use Rattle.text_fields.proofs.begins_with.Given as goal

-- the first i bytes of a text are those of a name
pub record Passed (name text : List ℕ) (i : ℕ) : Type 0 where
  pub within : i ≤ length name
  pub room : length name ≤ length text
  pub rest : begins_with name text ≡ begins_with (drop i name) (drop i text)

abbrev pub invariant-loop-i : goal.invariant-loop-i
invariant-loop-i l = Passed l.name l.text l.i
