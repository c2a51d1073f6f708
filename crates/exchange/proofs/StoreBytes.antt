-- What a request stores are bytes, so a store of bytes stays one.
use mathlib.Core.Path.{sym, ◌∙◌, subst}
use mathlib.Core.List.{List, [], ◌∷◌, ◌++◌}
use Prim.Native.Nat.{ℕ, zero, suc, ◌+◌, ◌<◌}
use native.Mathlib.Omega.{arith}
use lib.ListN.{length, get_or, set, take, drop, replicate}
use lib.Seq.{get_or-drop}
use Rattle.bitfield.specs.Field.{put_field}
use Rattle.bitfield.proofs.Laws.{bytes-put}
use Rattle.wire.specs.Digits.{Bytes, padded}
use Rattle.messages.specs.declared.message.Date.{Date}
use Rattle.plan.specs.Stores.{applied, range_of}
use Rattle.plan.proofs.Laws.{applied-append}
use Rattle.store.specs.Fields.{Field, read, write}
use Rattle.store.specs.Layout.{tag_length, former_length}
use Rattle.store.specs.Contents.{with_lengths, with_date, tag_stores}
use Rattle.store.proofs.DateLaws.{date_by}
use Rattle.schedule.specs.Programs.{Part, parts, program_bit, with_fields, with_program}
use Rattle.exchange.proofs.ReplyLaws.{bytes-part}

pub field-bytes : (m : List ℕ) (f : Field) (v : ℕ) → Bytes m → Bytes (write m f v)
field-bytes m f v = bytes-put m f.at f.width v

pub date_bytes : (m : List ℕ) (d : Date) → Bytes m → Bytes (with_date m d)
date_bytes m d = date_by Bytes m d (λ u f v _ _. field-bytes u f v)

-- ---- a program, which is written field by field

fields-bytes : (m : List ℕ) (at j : ℕ) (ps : List Part) (fs : List ℕ) → Bytes m → Bytes (with_fields m at j ps fs)
fields-bytes m at j [] fs h = h
fields-bytes m at j (p ∷ ps) fs h =
    let u : List ℕ = put_field m (at + p.at) p.width (get_or fs j 0) in
    fields-bytes u at (suc j) ps fs (bytes-put m (at + p.at) p.width (get_or fs j 0) h)

pub program_bytes : (m : List ℕ) (k : ℕ) (fs : List ℕ) → Bytes m → Bytes (with_program m k fs)
program_bytes m k fs h = fields-bytes m (program_bit k) 0 parts fs h

-- ---- a tag

pub set-bytes : (s : List ℕ) (p b : ℕ) → b < 256 → Bytes s → Bytes (set s p b)
set-bytes [] p b k h i = h i
set-bytes (x ∷ s) zero b k h zero = k
set-bytes (x ∷ s) zero b k h (suc i) = h (suc i)
set-bytes (x ∷ s) (suc p) b k h zero = h zero
set-bytes (x ∷ s) (suc p) b k h (suc i) = set-bytes s p b k (λ j. h (suc j)) i

pub range-bytes : (p : ℕ) (bs s : List ℕ) → Bytes bs → Bytes s → Bytes (applied (range_of p bs) s)
range-bytes p [] s k h = h
range-bytes p (b ∷ bs) s k h = range-bytes (suc p) bs (set s p b) (λ i. k (suc i)) (set-bytes s p b (k zero) h)

append-bytes : (s t : List ℕ) → Bytes s → Bytes t → Bytes (s ++ t)
append-bytes [] t h k i = k i
append-bytes (x ∷ s) t h k zero = h zero
append-bytes (x ∷ s) t h k (suc i) = append-bytes s t (λ j. h (suc j)) k i

zero_bytes : (n : ℕ) → Bytes (replicate n 0)
zero_bytes zero i = omega arith
zero_bytes (suc n) zero = omega arith
zero_bytes (suc n) (suc i) = zero_bytes n i

padded-bytes : (tag : List ℕ) → Bytes tag → Bytes (padded tag)
unfolding padded
padded-bytes tag h = append-bytes tag _ h (λ i. rw (get_or-drop {A = ℕ} (length tag) (replicate 16 0) i 0) (zero_bytes 16 (length tag + i)))

lengths-bytes : (m : List ℕ) (n : ℕ) → Bytes m → Bytes (with_lengths m n)
unfolding with_lengths
lengths-bytes m n h = field-bytes (write m former_length (read m tag_length)) tag_length n (field-bytes m former_length (read m tag_length) h)

pub tag_bytes : (m tag : List ℕ) → Bytes m → Bytes tag → Bytes (applied (tag_stores m tag) m)
unfolding tag_stores
tag_bytes m tag h k =
    let old = take 16 (drop 12 m) in
    let u = applied (range_of 28 old) m in
    let lengths = with_lengths m (length tag) in
    subst Bytes (sym (applied-append (range_of 28 old) _ m ∙ applied-append (range_of 12 (padded tag)) _ u))
    (range-bytes 10 (take 2 (drop 10 lengths)) (applied (range_of 12 (padded tag)) u) (bytes-part 2 10 lengths (lengths-bytes m (length tag) h))
    (range-bytes 12 (padded tag) u (padded-bytes tag k) (range-bytes 28 old m (bytes-part 16 12 m h) h)))
