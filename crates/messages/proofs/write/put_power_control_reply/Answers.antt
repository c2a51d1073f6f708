-- Status, name and mode, each right behind the one before.
use mathlib.Core.List.{List, [], ◌∷◌, ◌++◌}
use mathlib.Core.Path.{◌≡◌, refl}
use Prim.Native.Nat.{ℕ}
use lib.Seq.{paste}
use Rattle.wire.specs.Digits.{two, four}
use Rattle.wire.specs.Packet.{type_b}
use Rattle.messages.specs.Text.{power_control_name}
use Rattle.messages.specs.View.{status_number}
use Rattle.messages.specs.Inner.{Writes}
use Rattle.messages.specs.declared.message.Status.{Status}
use Rattle.messages.proofs.WriteLaws.{parts-written}
use Rattle.messages.proofs.WriteLaws.Pasted.{put, done}
use Rattle.messages.proofs.write.put_power_control_reply.Goals as goal

written : (status : Status) (mode : ℕ) (o b m₂ m₁ : List ℕ) (n : ℕ)
    → b ≡ paste m₂ 8 (four mode) 4 → m₂ ≡ paste m₁ 2 power_control_name 6 → m₁ ≡ paste o 0 (two n) 2 → n ≡ status_number status
    → Writes type_b (two (status_number status) ++ (power_control_name ++ four mode)) (record { kind = type_b; length = 12 }) o b
written status mode o b m₂ m₁ n g f e is =
    rw (← is) (parts-written type_b 12 (two n ∷ power_control_name ∷ four mode ∷ []) refl (put e (put f (put g done))))

pub returns : goal.returns
returns c = search written
