-- Both are equal where they are as long as one another and one begins with the other.
use mathlib.Core.Bool.{Bool, true, false, ◌&&◌}
use mathlib.Core.List.{List, [], ◌∷◌}
use mathlib.Core.Path.{◌≡◌, refl, ◌∙◌}
use Prim.Native.Nat.{ℕ, suc}
use Prim.Native.Nat.compare
use native.Mathlib.Omega.{arith}
use borrow.Author.Tests.{ne_eqb}
use lib.Dec.{eqb}
use lib.ListN.{length}
use lib.Pointwise.{pointwise}
use Rattle.messages.specs.Read.{begins_with, is_name}
use Rattle.text_fields.proofs.is_name.Goals as goal

swapped : (a b c : Bool) → (a && (b && c)) ≡ (b && (a && c))
swapped true b c = refl
swapped false true c = refl
swapped false false c = refl

by_bytes : (name t : List ℕ) → pointwise eqb name t ≡ (eqb (length t) (length name) && begins_with name t)
unfolding begins_with
by_bytes [] [] = refl
by_bytes [] (b ∷ t) = rw (ne_eqb (suc (length t)) 0 (λ e. omega arith))
by_bytes (a ∷ name) [] = rw (ne_eqb 0 (suc (length name)) (λ e. omega arith))
by_bytes (a ∷ name) (b ∷ t) = rw (by_bytes name t, compare.suc-suc (length t) (length name)) (swapped (eqb a b) (eqb (length t) (length name)) (begins_with name t))

pub returns : goal.returns
unfolding is_name
returns c = c.eq.ensures ∙ by_bytes c.args.name.now c.args.text.now
