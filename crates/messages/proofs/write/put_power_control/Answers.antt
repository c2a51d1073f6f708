-- The mode goes right behind the name.
use mathlib.Core.List.{List, [], ◌∷◌, ◌++◌}
use mathlib.Core.Path.{◌≡◌, refl}
use Prim.Native.Nat.{ℕ}
use lib.Seq.{paste}
use Rattle.wire.specs.Digits.{four}
use Rattle.wire.specs.Packet.{type_a}
use Rattle.messages.specs.Text.{power_control_name}
use Rattle.messages.specs.Inner.{Writes}
use Rattle.messages.proofs.WriteLaws.{parts-written}
use Rattle.messages.proofs.WriteLaws.Pasted.{put, done}
use Rattle.messages.proofs.write.put_power_control.Goals as goal

written : (mode : ℕ) (o b m : List ℕ) → b ≡ paste m 6 (four mode) 4 → m ≡ paste o 0 power_control_name 6
    → Writes type_a (power_control_name ++ four mode) (record { kind = type_a; length = 10 }) o b
written mode o b m e f = parts-written type_a 10 (power_control_name ∷ four mode ∷ []) refl (put f (put e done))

pub returns : goal.returns
returns c = search written
