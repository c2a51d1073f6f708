-- Both lengths are stored in a copy of the first 12 bytes.
use mathlib.Core.List.{List}
use mathlib.Core.Path.{◌≡◌, ◌∙◌}
use Prim.Native.Nat.{ℕ}
use native.Mathlib.Omega.{arith}
use lib.ListN.{take}
use Rattle.bitfield.specs.Field.{get_field, put_field}
use Rattle.store.specs.Contents.{with_lengths}
use Rattle.store.proofs.FieldLaws.{put-in_first}
use Rattle.store.proofs.contents.with_lengths.Goals as goal

lengths-put : (m : List ℕ) (count : ℕ) {old : ℕ} {h h₁ h₂ : List ℕ} → old ≡ get_field m 84 5 → h ≡ take 12 m
    → h₁ ≡ put_field h 89 5 old → h₂ ≡ put_field h₁ 84 5 count → h₂ ≡ take 12 (with_lengths m count)
unfolding with_lengths
lengths-put m count a b c d =
    put-in_first 12 (put_field m 89 5 (get_field m 84 5)) 84 5 count (omega arith)
    (put-in_first 12 m 89 5 (get_field m 84 5) (omega arith) b (c ∙ rw a)) d

pub returns : goal.returns
returns c = search lengths-put
