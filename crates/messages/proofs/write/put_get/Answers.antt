-- Code goes right behind page.
use mathlib.Core.List.{List, [], ◌∷◌, ◌++◌}
use mathlib.Core.Path.{◌≡◌, refl}
use Prim.Native.Nat.{ℕ}
use lib.Seq.{paste}
use Rattle.wire.specs.Digits.{two}
use Rattle.wire.specs.Packet.{type_c}
use Rattle.messages.specs.Inner.{Writes}
use Rattle.messages.proofs.WriteLaws.{parts-written}
use Rattle.messages.proofs.WriteLaws.Pasted.{put, done}
use Rattle.messages.proofs.write.put_get.Goals as goal

written : (page code : ℕ) (o b m : List ℕ) → b ≡ paste m 2 (two code) 2 → m ≡ paste o 0 (two page) 2
    → Writes type_c (two page ++ two code) (record { kind = type_c; length = 4 }) o b
written page code o b m e f = parts-written type_c 4 (two page ∷ two code ∷ []) refl (put f (put e done))

pub returns : goal.returns
returns c = search written
