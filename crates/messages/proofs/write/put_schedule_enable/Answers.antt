-- Name, program and enable, each right behind the one before.
use mathlib.Core.List.{List, [], ◌∷◌, ◌++◌}
use mathlib.Core.Path.{◌≡◌, refl}
use Prim.Native.Nat.{ℕ}
use lib.Seq.{paste}
use Rattle.wire.specs.Digits.{two}
use Rattle.wire.specs.Packet.{type_a}
use Rattle.messages.specs.Text.{schedule_enable_name}
use Rattle.messages.specs.Inner.{Writes}
use Rattle.messages.proofs.WriteLaws.{parts-written}
use Rattle.messages.proofs.WriteLaws.Pasted.{put, done}
use Rattle.messages.proofs.write.put_schedule_enable.Goals as goal

written : (program enable : ℕ) (o b m₂ m₁ : List ℕ)
    → b ≡ paste m₂ 6 (two enable) 2 → m₂ ≡ paste m₁ 4 (two program) 2 → m₁ ≡ paste o 0 schedule_enable_name 4
    → Writes type_a (schedule_enable_name ++ (two program ++ two enable)) (record { kind = type_a; length = 8 }) o b
written program enable o b m₂ m₁ g f e =
    parts-written type_a 8 (schedule_enable_name ∷ two program ∷ two enable ∷ []) refl (put e (put f (put g done)))

pub returns : goal.returns
returns c = search written
