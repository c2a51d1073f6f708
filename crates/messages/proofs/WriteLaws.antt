-- A text that is written part by part, each right behind what is written already, is written whole.
use Prim.Native.Nat.{ℕ, ◌+◌, ◌≤◌}
use mathlib.Core.List.{List, [], ◌∷◌, ◌++◌, append_assoc, append-nil}
use mathlib.Core.Path.{◌≡◌, refl, sym, ◌∙◌}
use native.Mathlib.Omega.{arith}
use lib.ListN.{length, take, length-append, take-append-drop}
use lib.Seq.{paste, length-take-le}
use Rattle.wire.specs.Packet.{over}
use Rattle.wire.proofs.PacketLaws.{over-paste}
use Rattle.messages.specs.Inner.{Writes}

-- the parts of a text as one
abbrev pub joined : List (List ℕ) → List ℕ
joined [] = []
joined (t ∷ []) = t
joined (t ∷ u ∷ us) = t ++ joined (u ∷ us)

joined_cons : (t : List ℕ) (ts : List (List ℕ)) → joined (t ∷ ts) ≡ t ++ joined ts
joined_cons t [] = sym (append-nil t)
joined_cons t (u ∷ us) = refl

-- a buffer, where the first of the parts goes, counted from a place, the parts, and the buffer after all of them
pub data Pasted (at : ℕ) : List ℕ → ℕ → List (List ℕ) → List ℕ → Type 0 where
  done : {o : List ℕ} {i : ℕ} → Pasted at o i [] o
  put : {o m b t : List ℕ} {i : ℕ} {ts : List (List ℕ)}
      → m ≡ paste o (at + i) t (length t) → Pasted at m (i + length t) ts b → Pasted at o i (t ∷ ts) b

parts-behind : (p o : List ℕ) {m b : List ℕ} (at i : ℕ) (ts : List (List ℕ)) → length p ≡ at + i → m ≡ over p o → Pasted at m i ts b
    → b ≡ over (p ++ joined ts) o
parts-behind p o at i [] e q done = rw (append-nil p) q
parts-behind p o at i (t ∷ ts) e q (put w ws) =
    let f : length (p ++ t) ≡ at + (i + length t) = rw length-append (omega arith) in
    rw (joined_cons t ts, ← append_assoc p t (joined ts))
    (parts-behind (p ++ t) o at (i + length t) ts f (w ∙ rw q (over-paste p o (at + i) e t)) ws)

pub parts-pasted : (o : List ℕ) (at : ℕ) (ts : List (List ℕ)) {b : List ℕ} → at ≤ length o → Pasted at o 0 ts b
    → b ≡ paste o at (joined ts) (length (joined ts))
unfolding over
parts-pasted o at ts h ws =
    let n = length-take-le at o h in
    let e : o ≡ over (take at o) o = rw n (sym (take-append-drop at o)) in
    parts-behind (take at o) o at 0 ts (omega arith) e ws ∙ rw (← e) at (sym (over-paste (take at o) o at n (joined ts)))

pub parts-written : (kind n : ℕ) (ts : List (List ℕ)) {o b : List ℕ} → n ≡ length (joined ts) → Pasted 0 o 0 ts b
    → Writes kind (joined ts) (record { kind = kind; length = n }) o b
unfolding over
parts-written kind n ts {o} e ws = record { kind = refl; count = e; buffer = parts-behind [] o 0 0 ts refl refl ws }

-- a name of which only the length is known, and parts behind it
pub named_written : (kind n : ℕ) (name : List ℕ) (ts : List (List ℕ)) {o m b : List ℕ} → length name ≡ 4 → n ≡ 4 + length (joined ts)
    → m ≡ paste o 0 name (length name) → Pasted 0 m 4 ts b
    → Writes kind (joined (name ∷ ts)) (record { kind = kind; length = n }) o b
named_written kind n name ts e f w ws =
    let count : n ≡ length (joined (name ∷ ts)) = rw (joined_cons name ts, length-append) (omega arith) in
    parts-written kind n (name ∷ ts) count (put w (rw e ws))
