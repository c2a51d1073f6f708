-- Six fields, each right behind the one before.
use mathlib.Core.List.{List, [], ◌∷◌}
use mathlib.Core.Path.{◌≡◌, refl}
use Prim.Native.Nat.{ℕ}
use lib.Seq.{paste}
use Rattle.wire.specs.Digits.{two, four}
use Rattle.messages.specs.Text.{parameter_text}
use Rattle.messages.specs.View.{status_number}
use Rattle.messages.specs.Inner.{Writes}
use Rattle.messages.specs.declared.message.Parameter.{Parameter}
use Rattle.messages.specs.declared.message.Status.{Status}
use Rattle.messages.proofs.WriteLaws.{parts-written}
use Rattle.messages.proofs.WriteLaws.Pasted.{put, done}
use Rattle.messages.proofs.write.put_parameter.Goals as goal

written : (kind : ℕ) (status : Status) (p : Parameter) (o b m₅ m₄ m₃ m₂ m₁ : List ℕ) (n : ℕ)
    → b ≡ paste m₅ 12 (four p.value) 4 → m₅ ≡ paste m₄ 8 (four p.largest) 4 → m₄ ≡ paste m₃ 6 (two p.operation) 2
    → m₃ ≡ paste m₂ 4 (two p.code) 2 → m₂ ≡ paste m₁ 2 (two p.page) 2 → m₁ ≡ paste o 0 (two n) 2 → n ≡ status_number status
    → Writes kind (parameter_text (status_number status) p.page p.code p.operation p.largest p.value)
    (record { kind = kind; length = 16 }) o b
unfolding parameter_text
written kind status p o b m₅ m₄ m₃ m₂ m₁ n f e d c₃ c₂ c₁ is =
    rw (← is)
    (parts-written kind 16
    (two n ∷ two p.page ∷ two p.code ∷ two p.operation ∷ four p.largest ∷ four p.value ∷ []) refl
    (put c₁ (put c₂ (put c₃ (put d (put e (put f done)))))))

pub returns : goal.returns
returns c = search written
