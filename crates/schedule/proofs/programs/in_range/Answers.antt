-- The seven programs are tested in turn, as the definition does.
use mathlib.Core.Bool.{and-true, and_assoc}
use mathlib.Core.List.{List}
use mathlib.Core.Path.{◌≡◌, refl, ◌∙◌}
use Prim.Native.Nat.{ℕ}
use Rattle.std.proofs.Common.{rules, tests}
use Rattle.std.proofs.lemmas.Iterator.{YieldsList-from_range}
use Rattle.std.proofs.lemmas.Iterator.Search.{all_from_yields_List}
use Rattle.std.specs.List.{list_all, range_with_len}
use Rattle.schedule.specs.Programs.{program_of, is_program, first_in_range, programs_in_range}
use Rattle.schedule.proofs.programs.in_range.Goals as goal

each_in_range : (m : List ℕ) → list_all (λ k. is_program (program_of m k)) (range_with_len 0 7) ≡ programs_in_range m
unfolding first_in_range
each_in_range m = simp (and_assoc, and-true)

pub returns : goal.returns
returns c =
    all_from_yields_List (λ k. is_program (program_of c.args.store.now k)) _ _ c.all.result c.all.ensures.ran
    (YieldsList-from_range 0 7 7 refl refl) (λ x b q k. search (rules, tests))
    ∙ each_in_range c.args.store.now
