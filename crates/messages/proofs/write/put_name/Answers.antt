-- The name is the only part.
use mathlib.Core.List.{List, [], ◌∷◌}
use mathlib.Core.Path.{◌≡◌, refl}
use Prim.Native.Nat.{ℕ}
use lib.ListN.{length}
use lib.Seq.{paste}
use Rattle.messages.specs.Inner.{Writes}
use Rattle.messages.proofs.WriteLaws.{parts-written}
use Rattle.messages.proofs.WriteLaws.Pasted.{put, done}
use Rattle.messages.proofs.write.put_name.Goals as goal

written : (kind : ℕ) (name o b : List ℕ) → b ≡ paste o 0 name (length name)
    → Writes kind name (record { kind = kind; length = length name }) o b
written kind name o b e = parts-written kind (length name) (name ∷ []) refl (put e done)

pub returns : goal.returns
returns c = search written
