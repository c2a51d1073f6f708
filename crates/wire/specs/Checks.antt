-- A call's refusals (docs/RULES.md, 'Receiver', 'Calls' and 'Station') as checks in their order: the first that fails gives the number.
use Rattle.std.specs.Prelude.{Bool, cond, List, [], ◌∷◌, ℕ}
use Rattle.std.proofs.Math.Option.{Option, none, some}

-- whether a check fails, and the number that a call is then refused with
abbrev pub Check : Type 0
Check = Bool × ℕ

-- the number of the first check that fails
unfoldable pub first_failed : List Check → Option ℕ
first_failed [] = none
first_failed ((fails, n) ∷ cs) = cond fails (some n) (first_failed cs)
