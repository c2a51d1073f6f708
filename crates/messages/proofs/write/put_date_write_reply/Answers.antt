-- Name, status and date, each right behind the one before.
use mathlib.Core.List.{List, [], ◌∷◌, ◌++◌}
use mathlib.Core.Path.{◌≡◌, refl}
use Prim.Native.Nat.{ℕ}
use lib.Seq.{paste}
use Rattle.wire.specs.Digits.{two}
use Rattle.wire.specs.Packet.{type_b}
use Rattle.messages.specs.Text.{date_text, date_write_reply_name}
use Rattle.messages.specs.View.{status_number}
use Rattle.messages.specs.Inner.{Writes}
use Rattle.messages.specs.declared.message.Date.{Date}
use Rattle.messages.specs.declared.message.Status.{Status}
use Rattle.messages.proofs.WriteLaws.{parts-written}
use Rattle.messages.proofs.WriteLaws.Pasted.{put, done}
use Rattle.messages.proofs.write.put_date_write_reply.Goals as goal

written : (status : Status) (d : Date) (o b m₂ m₁ : List ℕ) (n : ℕ)
    → b ≡ paste m₂ 6 (date_text d) 14 → m₂ ≡ paste m₁ 4 (two n) 2 → n ≡ status_number status → m₁ ≡ paste o 0 date_write_reply_name 4
    → Writes type_b (date_write_reply_name ++ (two (status_number status) ++ date_text d)) (record { kind = type_b; length = 20 }) o b
unfolding date_text
written status d o b m₂ m₁ n g f is e =
    rw (← is) (parts-written type_b 20 (date_write_reply_name ∷ two n ∷ date_text d ∷ []) refl (put e (put f (put g done))))

pub returns : goal.returns
returns c = search written
