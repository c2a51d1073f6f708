-- Accepted numbers name one of the seven programs.
use borrow.Author.Rules.{rules}
use borrow.Author.Tests.{not-false}
use mathlib.Core.Bool.{Bool, false, not}
use mathlib.Core.List.{List}
use mathlib.Core.Path.{◌≡◌, sym, ◌∙◌}
use Prim.Native.Nat.{ℕ, ◌<◌}
use lib.ListN.{get_or}
use Rattle.schedule.specs.Numbers.{is_accepted}
use Rattle.schedule.proofs.NumberLaws.{accepted-listed}
use Rattle.actions.proofs.schedule_write.Goals as goal

listed : (numbers : List ℕ) {a : Bool} → a ≡ is_accepted numbers → not a ≡ false → get_or numbers 0 0 < 7
listed numbers {a} test n = accepted-listed numbers (sym test ∙ not-false a n)

pub program_stores-requires : goal.program_stores-requires
program_stores-requires c = search (rules, listed)
