-- Name, status, fixed digits and mode, each right behind the one before.
use mathlib.Core.List.{List, [], ◌∷◌, ◌++◌}
use mathlib.Core.Path.{◌≡◌, refl}
use Prim.Native.Nat.{ℕ}
use lib.Seq.{paste}
use Rattle.wire.specs.Digits.{two, four}
use Rattle.wire.specs.Packet.{type_b}
use Rattle.messages.specs.Text.{power_read_reply_name, power_read_reply_fixed}
use Rattle.messages.specs.View.{status_number, mode_number}
use Rattle.messages.specs.Inner.{Writes}
use Rattle.messages.specs.declared.message.PowerMode.{PowerMode}
use Rattle.messages.specs.declared.message.Status.{Status}
use Rattle.messages.proofs.WriteLaws.{parts-written}
use Rattle.messages.proofs.WriteLaws.Pasted.{put, done}
use Rattle.messages.proofs.write.put_power_read_reply.Goals as goal

written : (status : Status) (mode : PowerMode) (o b m₃ m₂ m₁ : List ℕ) (k n : ℕ)
    → b ≡ paste m₃ 12 (four k) 4 → k ≡ mode_number mode → m₃ ≡ paste m₂ 4 power_read_reply_fixed 8
    → m₂ ≡ paste m₁ 2 (two n) 2 → n ≡ status_number status → m₁ ≡ paste o 0 power_read_reply_name 2
    → Writes type_b (power_read_reply_name ++ (two (status_number status) ++ (power_read_reply_fixed ++ four (mode_number mode))))
    (record { kind = type_b; length = 16 }) o b
written status mode o b m₃ m₂ m₁ k n h is-mode g f is-status e =
    rw (← is-status, ← is-mode)
    (parts-written type_b 16
    (power_read_reply_name ∷ two n ∷ power_read_reply_fixed ∷ four k ∷ []) refl
    (put e (put f (put g (put h done)))))

pub returns : goal.returns
returns c = search written
