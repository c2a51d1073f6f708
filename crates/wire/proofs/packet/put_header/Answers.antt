-- Each write is right behind the last one, so the buffer holds more of the header after each.
use mathlib.Core.List.{List, [], ◌∷◌, ◌++◌}
use mathlib.Core.Path.{◌≡◌, refl, ◌∙◌}
use Prim.Native.Nat.{ℕ, ◌+◌, ◌≤◌}
use native.Mathlib.Omega.{arith}
use lib.ListN.{length, set, length-set}
use lib.Seq.{paste}
use Rattle.wire.specs.Digits.{two}
use Rattle.wire.specs.Packet.{soh, stx, zero_byte, over}
use Rattle.wire.specs.Inner.{header}
use Rattle.wire.proofs.PacketLaws.{over-paste, over-set}
use Rattle.wire.proofs.packet.put_header.Goals as goal

module _ (o : List ℕ) (dest source kind n : ℕ) (room : 8 ≤ length o) where
  abbrev head : List ℕ
  head = soh ∷ zero_byte ∷ dest ∷ source ∷ kind ∷ []

  headed : paste o 0 head 5 ≡ over head o
  unfolding over
  headed = over-paste [] o 0 refl head

  counted : paste (over head o) 5 (two (n + 2)) 2 ≡ over (head ++ two (n + 2)) o
  counted = over-paste head o 5 refl (two (n + 2))

  opened : set (over (head ++ two (n + 2)) o) 7 stx ≡ over (header dest source kind n) o
  opened = over-set (head ++ two (n + 2)) o 7 refl stx room

  written : (o₂ o₁ : List ℕ) → o₂ ≡ paste o₁ 5 (two (n + 2)) 2 → o₁ ≡ paste o 0 head 5
      → set o₂ 7 stx ≡ over (header dest source kind n) o
  written o₂ o₁ counts heads =
      let f : o₁ ≡ over head o = heads ∙ headed in
      let g : o₂ ≡ over (head ++ two (n + 2)) o = counts ∙ rw f counted in
      rw g opened

pub shape_of-out : goal.shape_of-out
shape_of-out c = simp length-set (omega arith)

pub returns : goal.returns
returns c = search written
