-- A name that a text begins with is there byte for byte.
use Prim.Native.Nat.{ℕ}
use mathlib.Core.Bool.{true, false≢true}
use mathlib.Core.List.{List, [], ◌∷◌, ◌++◌}
use mathlib.Core.Path.{◌≡◌, refl, ap₂}
use borrow.Author.Tests.{eqb-true}
use lib.Dec.{eqb}
use lib.ListN.{length, drop}
use Rattle.wire.proofs.Tests.{both}
use Rattle.messages.specs.Read.{begins_with}

pub name-first : (name t : List ℕ) → begins_with name t ≡ true → name ++ drop (length name) t ≡ t
unfolding begins_with
name-first [] t h = refl
name-first (a ∷ name) [] h = absurd (false≢true h)
name-first (a ∷ name) (b ∷ t) h =
    let w = both (eqb a b) (begins_with name t) h in
    ap₂ (λ (x : ℕ) (y : List ℕ). x ∷ y) (eqb-true a b w.0) (name-first name t w.1)
