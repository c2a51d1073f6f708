-- After i turns the digits of the first i bytes are pasted, and each turn pastes two more.
use mathlib.Core.List.{List}
use mathlib.Core.Path.{◌≡◌, refl, ◌∙◌}
use Prim.Native.Nat.{ℕ, ◌+◌, ◌*◌, ◌≤◌, ◌<◌}
use native.Mathlib.Omega.{arith}
use lib.ListN.{length, get_or}
use lib.Seq.{paste, paste-zero}
use Rattle.wire.specs.Digits.{two, hex_of}
use Rattle.wire.proofs.DigitLaws.{hex_length, hex_at, paste_more}
use Rattle.wire.proofs.digits.put_hex.Invariants.{Pasted}
use Rattle.wire.proofs.digits.put_hex.Goals as goal

module _ (o : List ℕ) (at : ℕ) (s : List ℕ) where
  none-pasted : at + (length s + length s) ≤ length o → Pasted o at s o 0
  none-pasted room = record { within = omega arith; room = room; kept = refl; is = paste-zero o at (hex_of s) }

  byte-pasted : (i : ℕ) → i < length s → at + (length s + length s) ≤ length o
      → paste (paste o at (hex_of s) (i + i)) (at + 2 * i) (two (get_or s i 0)) 2 ≡ paste o at (hex_of s) (i + 1 + (i + 1))
  byte-pasted i h room =
      let place : at + 2 * i ≡ at + (i + i) = omega arith in
      let count : i + 1 + (i + 1) ≡ i + i + 2 = omega arith in
      let n = hex_length s in
      rw (place, count) (paste_more o at (hex_of s) (i + i) (two (get_or s i 0)) (omega arith) (omega arith) (hex_at s i h))

  module _ (out : List ℕ) (i : ℕ) (p : Pasted o at s out i) where
    one_more : i < length s → (out' : List ℕ) → out' ≡ paste out (at + 2 * i) (two (get_or s i 0)) 2 → length out' ≡ length out
        → Pasted o at s out' (i + 1)
    one_more h out' e n =
        let kept = p.kept in
        record { within = omega arith; room = p.room; kept = omega arith; is = e ∙ rw p.is (byte-pasted i h p.room) }

    all_pasted : length s ≤ i → out ≡ paste o at (hex_of s) (length (hex_of s))
    all_pasted h =
        let w = p.within in
        let e : i + i ≡ length (hex_of s) = omega (arith, hex_length s) in
        rw (← e) p.is

pub loop-i-init : goal.loop-i-init
loop-i-init c = search none-pasted

pub loop-i-preserved : goal.loop-i-preserved
loop-i-preserved c = search one_more

pub returns : goal.returns
returns c = search all_pasted
