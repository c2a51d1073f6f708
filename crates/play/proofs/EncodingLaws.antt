-- An encoded list means its list, one event after the other.
use borrow.Author.Tests.{le-ltb}
use mathlib.Core.List.{List, [], ◌∷◌, ◌++◌}
use mathlib.Core.Path.{◌≡◌, refl, ◌∙◌}
use Prim.Native.Nat.{ℕ, zero, suc, ◌-◌, ◌*◌, ◌≤◌, ◌<◌}
use native.Mathlib.Omega.{arith}
use lib.ListN.{length, get_or, length-append}
use lib.Seq.{take_at, drop_at}
use Rattle.calls.specs.Lists.{call, step, cut}
use Rattle.board.specs.BoardKind.{byte, gap}
use Rattle.board.specs.Demand3.{Events}
use Rattle.play.specs.Play.{event_of, part_of, events_in}
use Rattle.play.specs.Encoding.{encoding_of, buffers_of, AreEvents, Encodes}
use Rattle.play.proofs.Laws.{byte-event, gap-event, step-event}

-- ---- 16 bits

module _ (x y : ℕ) (small : x < 65536) (small' : y < 65536) (ns : List ℕ) (h : (k : ℕ) → get_or ns k 0 < 65536) where
  two-words : (k : ℕ) → get_or (x ∷ y ∷ ns) k 0 < 65536
  two-words zero = small
  two-words (suc zero) = small'
  two-words (suc (suc k)) = h k

words : (es : Events) → AreEvents es → (k : ℕ) → get_or (encoding_of es) k 0 < 65536
unfolding encoding_of AreEvents
words [] a k = omega arith
words (call (byte b) lent ∷ es) a k =
    two-words b (length lent) (omega (arith, a.0.0)) (omega (arith, a.0.1)) (encoding_of es) (words es a.1) k
words (call gap lent ∷ es) a k = two-words 256 (length lent) (omega arith) (omega (arith, a.0)) (encoding_of es) (words es a.1) k
words (step lent ∷ es) a k = two-words 257 (length lent) (omega arith) (omega (arith, a.0)) (encoding_of es) (words es a.1) k
words (cut ∷ es) a k = two-words 258 0 (omega arith) (omega arith) (encoding_of es) (words es a.1) k

-- ---- an encoding means its list

-- the part of an event that is lent a buffer is that buffer
whole_part : (k : ℕ) (lent rest : List ℕ) → k ≤ 257 → part_of k (length lent) (length (lent ++ rest)) ≡ length lent
unfolding part_of
whole_part k lent rest h = rw (le-ltb 257 k h, le-ltb (length (lent ++ rest)) (length lent) (rw length-append (omega arith)))

module _ (room : ℕ) (ns rest : List ℕ) (enough : 130 ≤ room) where
  lent-first : (k : ℕ) (lent : List ℕ) → k ≤ 257
      → events_in 128 room (k ∷ length lent ∷ ns) (lent ++ rest) ≡ event_of k lent ∷ events_in 128 (room - 130) ns rest
  unfolding events_in
  lent-first k lent h =
      rw (
        le-ltb room 130 enough,
        whole_part k lent rest h,
        take_at lent rest (length lent) refl,
        drop_at lent rest (length lent) refl,
      )

  cut-first : events_in 128 room (258 ∷ 0 ∷ ns) rest ≡ cut ∷ events_in 128 (room - 130) ns rest
  unfolding events_in event_of part_of
  cut-first = rw (le-ltb room 130 enough)

means : (es : Events) → AreEvents es → (room : ℕ) → 130 * length es ≤ room → events_in 128 room (encoding_of es) (buffers_of es) ≡ es
unfolding encoding_of buffers_of AreEvents events_in
means [] a room h = refl
means (call (byte b) lent ∷ es) a room h =
    lent-first room (encoding_of es) (buffers_of es) (omega arith) b lent (omega (arith, a.0.0))
    ∙ rw (byte-event b lent a.0.0, means es a.1 (room - 130) (omega arith))
means (call gap lent ∷ es) a room h =
    lent-first room (encoding_of es) (buffers_of es) (omega arith) 256 lent (omega arith)
    ∙ rw (gap-event 256 lent refl, means es a.1 (room - 130) (omega arith))
means (step lent ∷ es) a room h =
    lent-first room (encoding_of es) (buffers_of es) (omega arith) 257 lent (omega arith)
    ∙ rw (step-event 257 lent refl, means es a.1 (room - 130) (omega arith))
means (cut ∷ es) a room h = cut-first room (encoding_of es) (buffers_of es) (omega arith) ∙ rw (means es a.1 (room - 130) (omega arith))

pub encodes : Encodes
encodes = record { words = words; means = means }
