-- Digits are read back as the number or the bytes that were written, and what is read is no larger than its digits allow.
use Prim.Native.Nat.{ℕ, zero, suc, ◌+◌, ◌*◌, ◌/◌, ◌%◌, ◌<◌, ◌≤◌}
use mathlib.Core.Bool.{cond}
use mathlib.Core.List.{List, [], ◌∷◌, ◌++◌, append-nil, append_assoc}
use mathlib.Core.Option.{Option, none, some, map, none-ne-some}
use mathlib.Core.Path.{◌≡◌, refl, sym, ap, ◌∙◌}
use native.Mathlib.Nat.{not-suc-le-zero, suc-mul, mul-le-mul_right}
use native.Mathlib.Numerals.{add-one}
use native.Mathlib.Omega.{arith}
use borrow.Author.Tests.{le-ltb, le-leb, lt-leb, eq-eqb, ltb-true, ltb-false, eqb-true, eqb-false}
use lib.Dec.{ltb, leb, eqb}
use lib.ListN.{length, get_or, set, take, drop, replicate, length-append, length-drop, length-set, drop_of_length-le, get_or-append, take-append-drop}
use lib.Seq.{paste, take-paste, drop-paste, drop-drop, drop-cons, drop-set-lt, take-add, take-length, take-suc-set, length-take-le, append_snoc}
use Rattle.wire.specs.Digits.{
  Bytes,
  digit_of,
  two,
  hex_of,
  value_of,
  join,
  two_at,
  four_at,
  cons,
  unhex,
  octets_in,
  Exact,
  padded,
}
use Rattle.wire.proofs.Tests.{cond-by, and-false}
use Rattle.wire.proofs.DigitRange.{Below, digit_within}

-- ---- how large a number can be

join-within : (m base : ℕ) (high low : Option ℕ) → Below m high → Below base low → Below (m * base) (join base high low)
join-within m base none low p q = tt
join-within m base (some h) none p q = tt
join-within m base (some h) (some l) p q = omega (arith, suc-mul h base, mul-le-mul_right base p)

two-within : (s : List ℕ) (at : ℕ) → Below 256 (two_at s at)
unfolding two_at
two-within s at =
    join-within 16 16 (value_of (get_or s at 0)) (value_of (get_or s (at + 1) 0)) (digit_within (get_or s at 0)) (digit_within (get_or s (at + 1) 0))

pub digit_below : (b : ℕ) {h : ℕ} → value_of b ≡ some h → h < 16
digit_below b e = rw e at (digit_within b)

pub two-below : (s : List ℕ) (at : ℕ) {n : ℕ} → two_at s at ≡ some n → n < 256
two-below s at e = rw e at (two-within s at)

pub four_below : (s : List ℕ) (at : ℕ) {n : ℕ} → four_at s at ≡ some n → n < 65536
unfolding four_at
four_below s at e = rw e at (join-within 256 256 (two_at s at) (two_at s (at + 2)) (two-within s at) (two-within s (at + 2)))

-- ---- a number read back

pub digit_back : (n : ℕ) → n < 16 → value_of (digit_of n) ≡ some n
unfolding value_of
digit_back n h =
    cond-by (λ (b : ℕ). value_of b ≡ some n) (ltb n 10) _ _
    (λ t. let k = ltb-true n 10 t in rw (le-leb 0x30 (0x30 + n) (omega arith), le-leb (0x30 + n) 0x39 (omega arith)) (ap some (omega arith)))
    (λ t. let k = ltb-false n 10 t in rw (
      lt-leb (0x37 + n) 0x39 (omega arith),
      and-false (leb 0x30 (0x37 + n)),
      le-leb 0x41 (0x37 + n) (omega arith),
      le-leb (0x37 + n) 0x46 (omega arith),
    )
    (ap some (omega arith)))

pub digit_is_byte : (n : ℕ) → n < 16 → digit_of n < 256
digit_is_byte n h = cond-by (λ (b : ℕ). b < 256) (ltb n 10) _ _ (λ _. omega arith) (λ _. omega arith)

pub two_back : (n : ℕ) → n < 256 → join 16 (value_of (digit_of (n / 16))) (value_of (digit_of (n % 16))) ≡ some n
two_back n h = rw (digit_back (n / 16) (omega arith), digit_back (n % 16) (omega arith)) (ap some (omega arith))

pub four-back : (n : ℕ) → n < 65536
    → join 256 (join 16 (value_of (digit_of (n / 256 / 16))) (value_of (digit_of (n / 256 % 16))))
    (join 16 (value_of (digit_of (n % 256 / 16))) (value_of (digit_of (n % 256 % 16)))) ≡ some n
four-back n h = rw (two_back (n / 256) (omega arith), two_back (n % 256) (omega arith)) (ap some (omega arith))

-- what follows the two digits is nothing to them
pub two_at-append : (s t : List ℕ) (at : ℕ) → at + 1 < length s → two_at (s ++ t) at ≡ two_at s at
unfolding two_at
two_at-append s t at h = rw (get_or-append s t 0 at (omega arith), get_or-append s t 0 (at + 1) h)

-- ---- bytes as two digits each

pub hex_length : (s : List ℕ) → length (hex_of s) ≡ length s + length s
unfolding hex_of
hex_length [] = refl
hex_length (b ∷ bs) = let e = hex_length bs in omega arith

pub hex_append : (s t : List ℕ) → hex_of (s ++ t) ≡ hex_of s ++ hex_of t
unfolding hex_of
hex_append [] t = refl
hex_append (b ∷ bs) t = rw (hex_append bs t)

-- the two digits of one byte among them
pub hex_at : (s : List ℕ) (i : ℕ) → i < length s → take 2 (drop (i + i) (hex_of s)) ≡ two (get_or s i 0)
unfolding hex_of
hex_at [] i h = absurd (not-suc-le-zero h)
hex_at (b ∷ bs) zero h = refl
hex_at (b ∷ bs) (suc i) h =
    let e : suc i + suc i ≡ suc (suc (i + i)) = omega arith in
    rw e (hex_at bs i (omega arith))

pub unhex-hex : (s : List ℕ) → Bytes s → unhex (hex_of s) ≡ some s
unfolding hex_of unhex
unhex-hex [] h = refl
unhex-hex (b ∷ bs) h = rw (two_back b (h 0), unhex-hex bs (λ i. h (suc i)))

pub bytes_back : (s : List ℕ) → Bytes s → length s ≤ 16 → octets_in (hex_of s) ≡ some s
unfolding octets_in
bytes_back s h few = rw (le-ltb 32 (length (hex_of s)) (omega (arith, hex_length s))) (unhex-hex s h)

-- what was read has two digits for each byte, and bytes only
abbrev Read : List ℕ → Option (List ℕ) → Type 0
Read t none = Unit {0}
Read t (some s) = (length t ≡ length s + length s) × Bytes s

cons-read : (t : List ℕ) (h l : ℕ) (b : Option ℕ) (bs : Option (List ℕ)) → Below 256 b → Read t bs → Read (h ∷ l ∷ t) (cons b bs)
cons-read t h l none bs p q = tt
cons-read t h l (some b) none p q = tt
cons-read t h l (some b) (some bs) p q = (omega arith, at)
  where
    at : Bytes (b ∷ bs)
    at zero = p
    at (suc i) = q.1 i

unhex-read : (t : List ℕ) → Read t (unhex t)
unfolding unhex
unhex-read [] = (refl, λ i. omega arith)
unhex-read (h ∷ []) = tt
unhex-read (h ∷ l ∷ t) =
    cons-read t h l (join 16 (value_of h) (value_of l)) (unhex t)
    (join-within 16 16 (value_of h) (value_of l) (digit_within h) (digit_within l)) (unhex-read t)

bytes-told : (t : List ℕ) {s : List ℕ} → octets_in t ≡ some s → (length t ≤ 32) × Read t (some s)
unfolding octets_in
bytes-told t {s} =
    cond-by (λ (o : Option (List ℕ)). o ≡ some s → (length t ≤ 32) × Read t (some s)) (ltb 32 (length t)) none (unhex t)
    (λ _ e. absurd (none-ne-some s e))
    (λ f e. (ltb-false 32 (length t) f, rw e at (unhex-read t)))

pub bytes-length : (t : List ℕ) {s : List ℕ} → octets_in t ≡ some s → length t ≡ length s + length s
bytes-length t e = (bytes-told t e).1.0

pub bytes-are_bytes : (t : List ℕ) {s : List ℕ} → octets_in t ≡ some s → Bytes s
bytes-are_bytes t e = (bytes-told t e).1.1

pub bytes-few : (t : List ℕ) {s : List ℕ} → octets_in t ≡ some s → length s ≤ 16
bytes-few t e = let told = bytes-told t e in omega arith

-- ---- bytes read one after the other

-- bytes in front of what is read behind them; none where nothing is
abbrev pub before : List ℕ → Option (List ℕ) → Option (List ℕ)
before p o = map (λ (s : List ℕ). p ++ s) o

pub before-first : (o : Option (List ℕ)) → o ≡ before [] o
before-first none = refl
before-first (some s) = refl

pub before-one_more : (p : List ℕ) (b : ℕ) (o : Option (List ℕ)) → before p (cons (some b) o) ≡ before (p ++ (b ∷ [])) o
before-one_more p b none = refl
before-one_more p b (some s) = ap some (sym (append_snoc p b s))

cons-none : (b : Option ℕ) → none ≡ cons b none
cons-none none = refl
cons-none (some b) = refl

pub unhex-step : (t : List ℕ) (i : ℕ) → i + i + 1 < length t
    → unhex (drop (i + i) t) ≡ cons (two_at t (i + i)) (unhex (drop (i + 1 + (i + 1)) t))
unfolding unhex two_at
unhex-step t i h =
    let e : i + i + 1 ≡ suc (i + i) = omega arith in
    let f : i + 1 + (i + 1) ≡ suc (suc (i + i)) = omega arith in
    let g : i + i < length t = omega arith in
    let k : suc (i + i) < length t = omega arith in
    simp (drop-cons t (i + i) 0 g, drop-cons t (suc (i + i)) 0 k, e, f)

pub unhex-end : (t p : List ℕ) (i : ℕ) → i + i ≤ length t → length t ≤ i + i + 1
    → before p (unhex (drop (i + i) t)) ≡ cond (eqb (i + i) (length t)) (some p) none
unfolding unhex
unhex-end t p i h k =
    cond-by (λ (o : Option (List ℕ)). before p (unhex (drop (i + i) t)) ≡ o) (eqb (i + i) (length t)) (some p) none
    (λ q. let e : length t ≤ i + i = omega (arith, eqb-true (i + i) (length t) q) in rw (drop_of_length-le t e) (ap some (append-nil p)))
    (λ q. let n = eqb-false (i + i) (length t) q in
    let l : i + i < length t = omega arith in
    let e : length t ≤ suc (i + i) = omega arith in rw (drop-cons t (i + i) 0 l, drop_of_length-le t e))

-- the bytes that the first i pairs of digits give, zeros behind them
pub record Taken (t bytes : List ℕ) (i : ℕ) : Type 0 where
  pub sized : length bytes ≡ 16
  pub rest : unhex t ≡ before (take i bytes) (unhex (drop (i + i) t))
  pub zeros : drop i bytes ≡ drop i (replicate 16 0)

pub none-taken : (t : List ℕ) → Taken t (replicate 16 0) 0
none-taken t = record { sized = refl; rest = before-first (unhex t); zeros = refl }

pub one_more-taken : (t bytes : List ℕ) (i b : ℕ) → Taken t bytes i → i + i + 1 < length t → length t ≤ 32 → some b ≡ two_at t (2 * i)
    → Taken t (set bytes i b) (i + 1)
one_more-taken t bytes i b p more few e =
    let twice : 2 * i ≡ i + i = omega arith in
    let told : some b ≡ two_at t (i + i) = rw twice at e in
    let sized = p.sized in
    let here : take (i + 1) (set bytes i b) ≡ take i bytes ++ (b ∷ []) = rw add-one (take-suc-set bytes i b (omega arith)) in
    record {
      sized = simp length-set sized;
      rest = p.rest ∙ rw (unhex-step t i more, ← told, here) (before-one_more (take i bytes) b (unhex (drop (i + 1 + (i + 1)) t)));
      zeros = drop-set-lt (i + 1) bytes i b (omega arith) ∙ (sym (drop-drop 1 i bytes) ∙ (ap (drop 1) p.zeros ∙ drop-drop 1 i (replicate 16 0)));
    }

pub bad-taken : (t bytes : List ℕ) (i : ℕ) → Taken t bytes i → i + i + 1 < length t → none ≡ two_at t (2 * i) → none ≡ unhex t
bad-taken t bytes i p more e =
    let twice : 2 * i ≡ i + i = omega arith in
    let told : none ≡ two_at t (i + i) = rw twice at e in
    rw (p.rest, unhex-step t i more, ← told)

module _ (t bytes : List ℕ) (i : ℕ) (p : Taken t bytes i) where
  pub taken-found : i + i ≡ length t → some (take i bytes) ≡ unhex t
  taken-found whole = rw (p.rest, unhex-end t (take i bytes) i (omega arith) (omega arith), eq-eqb (i + i) (length t) whole)

  pub taken-exact : i ≤ 16 → Exact (record { bytes = bytes; count = i })
  unfolding padded
  taken-exact few =
      let size : length (take i bytes) ≡ i = length-take-le i bytes (omega (arith, p.sized)) in
      let padding : bytes ≡ take i bytes ++ drop i (replicate 16 0) = sym (take-append-drop i bytes) ∙ ap (λ (s : List ℕ). take i bytes ++ s) p.zeros in
      record { few = few; padding = rw size padding }

-- a digit that is left over
pub odd-unhex : (t : List ℕ) → length t % 2 ≡ 1 → none ≡ unhex t
unfolding unhex
odd-unhex [] h = absurd (omega arith)
odd-unhex (a ∷ []) h = refl
odd-unhex (a ∷ b ∷ t) h = rw (← odd-unhex t (omega arith)) (cons-none (join 16 (value_of a) (value_of b)))

-- ---- digits written one after the other

-- a copy of i elements, and right behind it of those that follow, is a copy of all
pub paste_more : (o : List ℕ) (at : ℕ) (s : List ℕ) (i : ℕ) (t : List ℕ)
    → at + i ≤ length o → i ≤ length s → take (length t) (drop i s) ≡ t
    → paste (paste o at s i) (at + i) t (length t) ≡ paste o at s (i + length t)
paste_more o at s i t h f e =
    let g : at ≤ length o = omega arith in
    let place : at + (i + length t) ≡ at + i + length t = omega arith in
    let apart = sym (drop-drop (length t) (at + i) (paste o at s i)) in
    let rest = apart ∙ ap (drop (length t)) (drop-paste o at s i g f) ∙ drop-drop (length t) (at + i) o in
    rw (take-paste o at s i g f, take-length t, rest, place, take-add i (length t) s, e, append_assoc (take at o) (take i s) t)

-- ---- an array of 16

pub padded-length : (s : List ℕ) → length s ≤ 16 → length (padded s) ≡ 16
unfolding padded
padded-length s h = simp (length-append, length-drop) (omega arith)
