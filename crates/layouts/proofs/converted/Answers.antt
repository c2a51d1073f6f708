-- Unused programs, and the mark behind them.
use Rattle.std.proofs.Common.{◌≡◌, ℕ, List, [], ◌∷◌, Option, true, length, get_or, take, map, sym, ap, ◌∙◌, arith}
use Rattle.std.specs.Option.{unwrap_or}
use Rattle.plan.specs.Stores.{Entry, entry, range_of}
use Rattle.plan.specs.Inner.{Extended}
use Rattle.plan.specs.Plans.{entry_of, stores_of}
use Rattle.plan.specs.declared.Plan.{Plan}
use Rattle.store.proofs.FieldLaws.{only}
use Rattle.schedule.specs.Programs.{unused_programs}
use Rattle.layouts.specs.Layouts.{older_mark, fits_layout, conversion}
use Rattle.layouts.specs.Inner.{due_in}
use Rattle.layouts.proofs.ConversionLaws.{conversion-none, conversion-is, conversion-count, due-fits}
use Rattle.layouts.proofs.converted.Goals as goal

nothing : (m : List ℕ) {r : List Entry} → (get_or m 0 0 ≡ 0 → ⊥) → r ≡ [] → r ≡ conversion m
nothing m h e = e ∙ sym (conversion-none m h)

older : (m : List ℕ) {programs : List ℕ} {e₀ e₁ e₂ : Plan} (n : ℕ) (d : Option ℕ) → length m ≡ 128 → get_or m 0 0 ≡ 0 → (get_or m 0 0 ≡ older_mark → fits_layout m ≡ true)
    → programs ≡ unused_programs → stores_of e₀ ≡ [] → e₀.count ≡ 0 → Extended e₀ e₁ (range_of 44 programs) (length programs)
    → Extended e₁ e₂ (entry 0 1 ∷ []) 1 → d ≡ due_in m → n ≡ unwrap_or d 0 → map entry_of (take n e₂.stores) ≡ conversion m
older m {programs} {e₀} {e₁} {e₂} n d size h fits p e z f g due is =
    let l : length programs ≡ 35 = ap length p in
    let told : n ≡ 36 = is ∙ rw (due, due-fits m (fits h)) (conversion-count m size h) in
    let all : n ≡ e₂.count = omega (arith, told, z, l, f.count, g.count) in
    ap (λ (k : ℕ). map entry_of (take k e₂.stores)) all ∙ g.stores ∙ sym (rw (conversion-is m size h, only e f.stores, p))

pub returns-then-store-ne-OLDER_MARK : goal.returns-then-store-ne-OLDER_MARK
returns-then-store-ne-OLDER_MARK c = search nothing

pub returns : goal.returns
returns c = search older
