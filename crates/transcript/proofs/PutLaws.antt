-- Bytes written from a place on, and right behind others.
use Prim.Native.Nat.{ℕ, ◌+◌, ◌≤◌, ◌<◌}
use mathlib.Core.List.{List, [], ◌∷◌, ◌++◌}
use mathlib.Core.Path.{◌≡◌, refl, sym, ◌∙◌}
use native.Mathlib.Omega.{arith}
use native.Mathlib.Numerals.{add-one}
use lib.ListN.{length, take, drop, set, length-append}
use lib.Seq.{paste, paste-zero, length-paste, take-length, take-append_seam, drop-append_seam, set_split, append_snoc}
use Rattle.wire.proofs.DigitLaws.{paste_more}
use Rattle.transcript.specs.Inner.{Put}

paste_behind : (o : List ℕ) (at : ℕ) (s t : List ℕ) → at + length s ≤ length o
    → paste (paste o at s (length s)) (at + length s) t (length t) ≡ paste o at (s ++ t) (length (s ++ t))
paste_behind o at s t h =
    let few : length s ≤ length (s ++ t) = rw length-append (omega arith) in
    let rest : take (length t) (drop (length s) (s ++ t)) ≡ t = rw drop-append_seam (take-length t) in
    let front : take (length s) (s ++ t) ≡ take (length s) s = take-append_seam s t ∙ sym (take-length s) in
    rw (length-append s t, ← paste_more o at (s ++ t) (length s) t h few rest, front)

-- no byte
pub put-none : (o : List ℕ) (at : ℕ) (t : List ℕ) → t ≡ [] → Put o at t at o
put-none o at t e = rw e (omega arith, paste-zero o at [])

pub put_one : (o : List ℕ) (at b : ℕ) → at < length o → set o at b ≡ paste o at (b ∷ []) 1
put_one o at b h = set_split o at b h ∙ rw (append_snoc (take at o) b (drop (at + 1) o), add-one at)

module _ (o : List ℕ) (at b : ℕ) (t : List ℕ) (r : ℕ) (m : List ℕ) where
  -- a byte, and t behind it
  pub put_first : at < length o → Put (set o at b) (at + 1) t r m → Put o at (b ∷ t) r m
  put_first h (e, f) = (omega arith, f ∙ rw (put_one o at b h) (paste_behind o at (b ∷ []) t (omega arith)))

  -- t, and a byte behind it
  pub put_last : at + length t < length o → Put o at t r m → Put o at (t ++ (b ∷ [])) (r + 1) (set m r b)
  put_last h (e, f) =
      let l = length-paste o at t (length t) (omega arith) (omega arith) in
      rw (e, f, put_one (paste o at t (length t)) (at + length t) b (omega arith), paste_behind o at t (b ∷ []) (omega arith))
      (rw length-append (omega arith), refl)
