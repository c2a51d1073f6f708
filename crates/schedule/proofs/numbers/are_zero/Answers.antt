-- Each byte is tested, as the definition does.
use mathlib.Core.Bool.{◌&&◌}
use mathlib.Core.List.{List, [], ◌∷◌}
use mathlib.Core.Path.{◌≡◌, refl, ap, ◌∙◌}
use Prim.Native.Nat.{ℕ}
use lib.Dec.{eqb}
use Rattle.std.proofs.Common.{rules, tests}
use Rattle.std.proofs.lemmas.Iterator.{YieldsList-from_slice}
use Rattle.std.proofs.lemmas.Iterator.Search.{all_from_yields_List}
use Rattle.std.specs.List.{list_all}
use Rattle.schedule.specs.Numbers.{are_zero}
use Rattle.schedule.proofs.numbers.are_zero.Goals as goal

each_zero : (s : List ℕ) → list_all (λ x. eqb x 0) s ≡ are_zero s
unfolding are_zero
each_zero [] = refl
each_zero (x ∷ xs) = ap (λ b. eqb x 0 && b) (each_zero xs)

pub returns : goal.returns
returns c =
    all_from_yields_List (λ x. eqb x 0) _ _ c.all.result c.all.ensures.ran (YieldsList-from_slice c.args.bytes.now cc)
    (λ x b q k. search (rules, tests))
    ∙ each_zero c.args.bytes.now
