-- The fields of the rows before place i are those that were tested.
use mathlib.Core.Bool.{Bool, ◌&&◌}
use mathlib.Core.List.{List, map}
use mathlib.Core.Path.{◌≡◌}
use Prim.Native.Nat.{ℕ}
use lib.ListN.{drop}
use Rattle.store.specs.Fields.{all_fit}
use Rattle.store.specs.Settings.{settings, field_of}
use Rattle.store.specs.Layout.{setting_fields}
use Rattle.store.proofs.settings.in_range.Given as goal

-- what the fields from place i on decide, behind the tests so far
unfoldable pub Tested : List ℕ → Bool → ℕ → Type 0
Tested m all i = all_fit m setting_fields ≡ (all && all_fit m (map field_of (drop i settings)))

abbrev pub invariant-loop-row : goal.invariant-loop-row
invariant-loop-row l = Tested l.store l.all l.row-index
