-- The reserved numbers are all that stand behind the fields.
use mathlib.Core.List.{List}
use mathlib.Core.Path.{◌≡◌, ap, ◌∙◌}
use Prim.Native.Nat.{ℕ}
use native.Mathlib.Omega.{arith}
use lib.ListN.{length, take, drop, length-drop}
use lib.Seq.{take_all}
use Rattle.std.proofs.lemmas.Grind.{common_steps}
use Rattle.schedule.specs.Numbers.{are_zero, is_accepted}
use Rattle.schedule.proofs.numbers.is_accepted.Goals as goal

last_eight : (ns : List ℕ) → length ns ≡ 16 → take 8 (drop 8 ns) ≡ drop 8 ns
last_eight ns h = take_all 8 (drop 8 ns) (simp length-drop (omega arith))

pub returns-then-numbers-le7 : goal.returns-then-numbers-le7
unfolding is_accepted
returns-then-numbers-le7 c =
    let e : c.are_zero.result ≡ are_zero (drop 8 c.args.numbers) = c.are_zero.ensures ∙ ap are_zero (last_eight c.args.numbers (omega arith)) in
    grind (arith, common_steps)
