-- Name, status, program and enable, each right behind the one before.
use mathlib.Core.List.{List, [], ◌∷◌, ◌++◌}
use mathlib.Core.Path.{◌≡◌, refl}
use Prim.Native.Nat.{ℕ}
use lib.Seq.{paste}
use Rattle.wire.specs.Digits.{two}
use Rattle.wire.specs.Packet.{type_b}
use Rattle.messages.specs.Text.{schedule_enable_reply_name}
use Rattle.messages.specs.View.{status_number}
use Rattle.messages.specs.Inner.{Writes}
use Rattle.messages.specs.declared.message.Status.{Status}
use Rattle.messages.proofs.WriteLaws.{parts-written}
use Rattle.messages.proofs.WriteLaws.Pasted.{put, done}
use Rattle.messages.proofs.write.put_schedule_enable_reply.Goals as goal

written : (status : Status) (program enable : ℕ) (o b m₃ m₂ m₁ : List ℕ) (n : ℕ)
    → b ≡ paste m₃ 8 (two enable) 2 → m₃ ≡ paste m₂ 6 (two program) 2 → m₂ ≡ paste m₁ 4 (two n) 2 → n ≡ status_number status
    → m₁ ≡ paste o 0 schedule_enable_reply_name 4
    → Writes type_b (schedule_enable_reply_name ++ (two (status_number status) ++ (two program ++ two enable))) (record { kind = type_b; length = 10 }) o b
written status program enable o b m₃ m₂ m₁ n h g f is e =
    rw (← is)
    (parts-written type_b 10 (schedule_enable_reply_name ∷ two n ∷ two program ∷ two enable ∷ []) refl (put e (put f (put g (put h done)))))

pub returns : goal.returns
returns c = search written
