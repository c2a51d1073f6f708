-- The rows before place i are not the one of the page and the code, so what is found is found in the rest.
use mathlib.Core.Path.{◌≡◌}
use lib.ListN.{drop}
use Rattle.store.specs.Settings.{settings, row_in, setting_at}
use Rattle.store.proofs.settings.setting_at.Given as goal

abbrev pub invariant-loop-row : goal.invariant-loop-row
invariant-loop-row l = setting_at l.page l.code ≡ row_in l.page l.code (drop l.row-index settings)
