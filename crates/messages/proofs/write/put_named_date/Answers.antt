-- The date goes right behind the name.
use mathlib.Core.List.{List, [], ◌∷◌, ◌++◌}
use mathlib.Core.Path.{◌≡◌, refl}
use Prim.Native.Nat.{ℕ}
use lib.ListN.{length}
use lib.Seq.{paste}
use Rattle.wire.specs.Digits.{four}
use Rattle.messages.specs.Text.{date_text}
use Rattle.messages.specs.Inner.{Writes}
use Rattle.messages.specs.declared.message.Date.{Date}
use Rattle.messages.proofs.WriteLaws.{named_written}
use Rattle.messages.proofs.WriteLaws.Pasted.{put, done}
use Rattle.messages.proofs.write.put_named_date.Goals as goal

written : (kind : ℕ) (name : List ℕ) (d : Date) (o b m : List ℕ) → b ≡ paste m 4 (date_text d) 14 → m ≡ paste o 0 name (length name)
    → length name ≡ 4 → Writes kind (name ++ date_text d) (record { kind = kind; length = 18 }) o b
unfolding date_text
written kind name d o b m e f four = named_written kind 18 name (date_text d ∷ []) four refl f (put e done)

pub returns : goal.returns
returns c = search written
