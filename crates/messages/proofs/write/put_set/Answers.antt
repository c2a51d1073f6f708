-- Page, code and value, each right behind the one before.
use mathlib.Core.List.{List, [], ◌∷◌, ◌++◌}
use mathlib.Core.Path.{◌≡◌, refl}
use Prim.Native.Nat.{ℕ}
use lib.Seq.{paste}
use Rattle.wire.specs.Digits.{two, four}
use Rattle.wire.specs.Packet.{type_e}
use Rattle.messages.specs.Inner.{Writes}
use Rattle.messages.proofs.WriteLaws.{parts-written}
use Rattle.messages.proofs.WriteLaws.Pasted.{put, done}
use Rattle.messages.proofs.write.put_set.Goals as goal

written : (page code value : ℕ) (o b m₂ m₁ : List ℕ)
    → b ≡ paste m₂ 4 (four value) 4 → m₂ ≡ paste m₁ 2 (two code) 2 → m₁ ≡ paste o 0 (two page) 2
    → Writes type_e (two page ++ (two code ++ four value)) (record { kind = type_e; length = 8 }) o b
written page code value o b m₂ m₁ e f g =
    parts-written type_e 8 (two page ∷ two code ∷ four value ∷ []) refl (put g (put f (put e done)))

pub returns : goal.returns
returns c = search written
