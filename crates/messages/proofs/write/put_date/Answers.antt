-- Seven fields, each right behind the one before.
use mathlib.Core.List.{List, [], ◌∷◌}
use mathlib.Core.Path.{◌≡◌}
use Prim.Native.Nat.{ℕ, ◌+◌, ◌≤◌}
use native.Mathlib.Nat.{add-zero}
use native.Mathlib.Omega.{arith}
use lib.ListN.{length}
use lib.Seq.{paste}
use Rattle.wire.specs.Digits.{two}
use Rattle.messages.specs.Text.{date_text}
use Rattle.messages.specs.declared.message.Date.{Date}
use Rattle.messages.proofs.WriteLaws.{parts-pasted}
use Rattle.messages.proofs.WriteLaws.Pasted.{put, done}
use Rattle.messages.proofs.write.put_date.Goals as goal

written : (d : Date) (at : ℕ) (o b m₆ m₅ m₄ m₃ m₂ m₁ : List ℕ)
    → b ≡ paste m₆ (at + 12) (two d.daylight) 2 → m₆ ≡ paste m₅ (at + 10) (two d.minute) 2
    → m₅ ≡ paste m₄ (at + 8) (two d.hour) 2 → m₄ ≡ paste m₃ (at + 6) (two d.weekday) 2
    → m₃ ≡ paste m₂ (at + 4) (two d.day) 2 → m₂ ≡ paste m₁ (at + 2) (two d.month) 2 → m₁ ≡ paste o at (two d.year) 2
    → length o ≡ 62 → at + 14 ≤ 62 → b ≡ paste o at (date_text d) 14
unfolding date_text
written d at o b m₆ m₅ m₄ m₃ m₂ m₁ daylight minute hour weekday day month year size room =
    parts-pasted o at
    (two d.year ∷ two d.month ∷ two d.day ∷ two d.weekday ∷ two d.hour ∷ two d.minute ∷ two d.daylight ∷ [])
    (omega arith)
    (put (rw add-zero year) (put month (put day (put weekday (put hour (put minute (put daylight done)))))))

pub returns : goal.returns
returns c = search written
