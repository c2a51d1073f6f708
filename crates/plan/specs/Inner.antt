-- What inner functions ask and give. No contract of an entry point cites it.
use Rattle.std.specs.Prelude.{List, [], ◌∷◌, ◌++◌, ◌≡◌, ℕ, ◌+◌, ◌≤◌, ◌<◌, length}
use Rattle.plan.specs.Stores.{Entry, most_stores}
use Rattle.plan.specs.Plans.{stores_of}
use Rattle.plan.specs.declared.Plan.{Plan}

-- every place is below n
abbrev pub Within : ℕ → List Entry → Type 0
Within n [] = Unit
Within n (e ∷ es) = (e.place < n) × Within n es

-- entries that a plan can hold and a store of n bytes can take
pub record Committable (n : ℕ) (es : List Entry) : Type 0 where
  pub few : length es ≤ most_stores
  pub within : Within n es

-- the plan r is p with n more entries, es
pub record Extended (p r : Plan) (es : List Entry) (n : ℕ) : Type 0 where
  pub stores : stores_of r ≡ stores_of p ++ es
  pub count : r.count ≡ p.count + n
