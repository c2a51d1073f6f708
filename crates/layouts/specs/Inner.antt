-- What inner functions give. No contract of an entry point cites it.
use Rattle.std.specs.Prelude.{cond, List, ℕ, Option, Some, None, length}
use Rattle.layouts.specs.Layouts.{fits_layout, conversion}

-- how many bytes a start on a store stores; none where what its layout has is out of range
unfoldable pub due_in : List ℕ → Option ℕ
due_in m = cond (fits_layout m) (Some (length (conversion m))) None
