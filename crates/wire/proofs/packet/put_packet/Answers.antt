-- Each write is right behind the last one, so the buffer holds more of the packet after each.
use mathlib.Core.List.{List, [], ◌∷◌, ◌++◌, append_assoc}
use mathlib.Core.Path.{◌≡◌, refl, sym, ◌∙◌}
use Prim.Native.Nat.{ℕ, ◌+◌, ◌-◌, ◌≤◌}
use native.Mathlib.Omega.{arith}
use lib.ListN.{length, take, drop, set, length-append, length-set}
use lib.Seq.{paste, take_at}
use Rattle.wire.specs.Packet.{soh, etx, cr, over, packet_with, packet, covered, xor_of, length_digits}
use Rattle.wire.specs.Inner.{header, Fits}
use Rattle.wire.proofs.PacketLaws.{over-paste, over-set, front, written-length}
use Rattle.wire.proofs.packet.put_packet.Goals as goal

module _ (o text : List ℕ) (dest source kind : ℕ) where
  abbrev sealed : List ℕ
  sealed = soh ∷ covered dest source kind (length_digits text) text

  sized : length text + 11 ≡ length (packet dest source kind text)
  sized = sym (written-length dest source kind text)

  texted : paste (over (header dest source kind (length text)) o) 8 text (length text) ≡ over (front dest source kind (length_digits text) text) o
  texted = over-paste (header dest source kind (length text)) o 8 refl text

  checked : take (length text + 9 - 1) (drop 1 (over sealed o)) ≡ covered dest source kind (length_digits text) text
  unfolding over
  checked = take_at (covered dest source kind (length_digits text) text) _ (length text + 9 - 1) (simp length-append (omega arith))

  module _ (room : length text + 11 ≤ length o) where
    ended : set (over (front dest source kind (length_digits text) text) o) (length text + 8) etx ≡ over sealed o
    ended = over-set (front dest source kind (length_digits text) text) o (length text + 8) (omega arith) etx (omega arith)

    closed : (code : ℕ) → code ≡ xor_of (covered dest source kind (length_digits text) text)
        → set (set (over sealed o) (length text + 9) code) (length text + 10) cr ≡ over (packet dest source kind text) o
    unfolding packet packet_with
    closed code e =
        let l : length sealed ≡ length text + 9 = simp length-append (omega arith) in
        let m : length (sealed ++ (code ∷ [])) ≡ length text + 10 = simp length-append (omega arith) in
        let coded = over-set sealed o (length text + 9) l code (omega arith) in
        let returned = over-set (sealed ++ (code ∷ [])) o (length text + 10) m cr (omega arith) in
        rw (coded, returned, append_assoc sealed (code ∷ []) (cr ∷ []), e)

  steps : Fits text o → (code : ℕ) (o₂ o₁ : List ℕ)
      → code ≡ xor_of (take (length text + 9 - 1) (drop 1 (set o₂ (length text + 8) etx)))
      → o₂ ≡ paste o₁ 8 text (length text) → o₁ ≡ over (header dest source kind (length text)) o
      → set (set (set o₂ (length text + 8) etx) (length text + 9) code) (length text + 10) cr ≡ over (packet dest source kind text) o
  steps fits code o₂ o₁ checks texts heads =
      let f : o₂ ≡ over (front dest source kind (length_digits text) text) o = texts ∙ rw heads texted in
      let g : set o₂ (length text + 8) etx ≡ over sealed o = rw f (ended fits.room) in
      rw g (closed fits.room code (checks ∙ rw (g, checked)))

pub bounds-out-n-2 : goal.bounds-out-n-2
bounds-out-n-2 c = simp length-set (omega arith)

pub bounds-out-n-3 : goal.bounds-out-n-3
bounds-out-n-3 c = simp length-set (omega arith)

pub shape_of-out : goal.shape_of-out
shape_of-out c = simp length-set (omega arith)

pub returns : goal.returns
returns c = search (sized, steps)
