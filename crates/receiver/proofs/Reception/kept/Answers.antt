-- Bytes stay held where more are waited for, and in no other case.
use Rattle.std.proofs.Common.{◌≡◌, ℕ, refl}
use Rattle.receiver.specs.Inner.{kept_after}
use Rattle.receiver.specs.declared.Reception.{Reception}
use Rattle.receiver.proofs.Reception.kept.Goals as goal

none_kept : (a : Reception) (n : ℕ) → (a ≡ Reception.Waiting → ⊥) → 0 ≡ kept_after a n
none_kept Reception.Waiting n k = absurd (k refl)
none_kept (Reception.Refused r) n k = refl
none_kept (Reception.Whole m) n k = refl

pub returns-in_default : goal.returns-in_default
returns-in_default c = search none_kept
