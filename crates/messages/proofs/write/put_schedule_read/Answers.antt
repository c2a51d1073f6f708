-- The program goes right behind the name.
use mathlib.Core.List.{List, [], ◌∷◌, ◌++◌}
use mathlib.Core.Path.{◌≡◌, refl}
use Prim.Native.Nat.{ℕ}
use lib.Seq.{paste}
use Rattle.wire.specs.Digits.{two}
use Rattle.wire.specs.Packet.{type_a}
use Rattle.messages.specs.Text.{schedule_read_name}
use Rattle.messages.specs.Inner.{Writes}
use Rattle.messages.proofs.WriteLaws.{parts-written}
use Rattle.messages.proofs.WriteLaws.Pasted.{put, done}
use Rattle.messages.proofs.write.put_schedule_read.Goals as goal

written : (program : ℕ) (o b m : List ℕ) → b ≡ paste m 4 (two program) 2 → m ≡ paste o 0 schedule_read_name 4
    → Writes type_a (schedule_read_name ++ two program) (record { kind = type_a; length = 6 }) o b
written program o b m e f = parts-written type_a 6 (schedule_read_name ∷ two program ∷ []) refl (put f (put e done))

pub returns : goal.returns
returns c = search written
