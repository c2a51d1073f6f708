-- Laws of packets: writing right behind what is written, a packet's parts, and what its judges say of it.
use Prim.Native.Nat.{ℕ, ◌+◌, ◌-◌, ◌≤◌, ◌<◌}
use mathlib.Core.Bool.{Bool, true, false, cond, not}
use mathlib.Core.List.{List, [], ◌∷◌, ◌++◌, append_assoc}
use mathlib.Core.Option.{Option, none, some}
use mathlib.Core.Path.{◌≡◌, refl, sym, ap, ◌∙◌}
use native.Mathlib.Omega.{arith}
use native.Mathlib.Numerals.{add-one}
use borrow.Author.Tests.{le-leb, leb-true, eq-eqb}
use lib.Dec.{leb, eqb}
use lib.ListN.{length, take, drop, set, get_or, length-append, get_or-append}
use lib.Seq.{paste, take_at, take-length, drop-append-add, drop-drop, set_at, drop-cons, append_snoc, get_or-append-add}
use Rattle.wire.specs.Digits.{two_at, SameDigits}
use Rattle.wire.specs.Packet.{soh, stx, etx, cr, zero_byte, xor_of, covered, packet_with, packet, over, size_from, size, check_code, packet_text, length_digits}
use Rattle.wire.specs.Judge.{Verdict, good, refused, is_request_type, in_limits, is_length, header_verdict, ends_in_return, has_check_code, is_message, packet_verdict}
use Rattle.wire.proofs.Tests.{both}
use Rattle.wire.proofs.DigitLaws.{two_back, two_at-append}
use Rattle.wire.proofs.CaseLaws.{same-itself, same_length, same-append, same-two}

-- ---- writing right behind what is written

module _ (p o : List ℕ) (k : ℕ) (e : length p ≡ k) where
  pub over-paste : (t : List ℕ) → paste (over p o) k t (length t) ≡ over (p ++ t) o
  unfolding over
  over-paste t =
      ap (λ (k : ℕ). paste (p ++ drop (length p) o) k t (length t)) (sym e)
      ∙ simp (take_at p (drop (length p) o) (length p) refl, take-length, drop-append-add, drop-drop, length-append)

  pub over-set : (b : ℕ) → k < length o → set (over p o) k b ≡ over (p ++ (b ∷ [])) o
  unfolding over
  over-set b h =
      let g : length p < length o = omega arith in
      rw (drop-cons o (length p) 0 g, set_at p _ _ b k e, ← append_snoc, length-append, add-one)

  pub over-take : take k (over p o) ≡ p
  unfolding over
  over-take = take_at p (drop (length p) o) k e

-- ---- a packet's parts

two_bytes : (P : List ℕ → Type 0) → ((high low : ℕ) → P (high ∷ low ∷ [])) → (digits : List ℕ) → length digits ≡ 2 → P digits
two_bytes P f [] e = absurd (omega arith)
two_bytes P f (high ∷ []) e = absurd (omega arith)
two_bytes P f (high ∷ low ∷ []) e = f high low
two_bytes P f (high ∷ low ∷ b ∷ digits) e = absurd (omega arith)

module _ (dest source kind : ℕ) (digits text : List ℕ) where
  -- from SOH to the text's end
  abbrev pub front : List ℕ
  front = soh ∷ zero_byte ∷ dest ∷ source ∷ kind ∷ (digits ++ (stx ∷ text))

  abbrev cover : List ℕ
  cover = covered dest source kind digits text

  abbrev whole : List ℕ
  whole = packet_with dest source kind digits text

  packet-parts : whole ≡ front ++ (etx ∷ xor_of cover ∷ cr ∷ [])
  unfolding packet_with
  packet-parts = simp append_assoc

  -- with length digits that count the text, STX and ETX, in either case
  module _ (counted : SameDigits (length_digits text) digits) where
    pair : length digits ≡ 2
    pair = same_length (length_digits text) digits counted

    pub packet-length : length whole ≡ length text + 11
    unfolding packet_with
    packet-length = simp length-append (omega (arith, pair))

    packet-stx : get_or whole 7 0 ≡ stx
    unfolding packet_with
    packet-stx = two_bytes (λ d. get_or (packet_with dest source kind d text) 7 0 ≡ stx) (λ high low. refl) digits pair

    module _ (most : length text ≤ 62) where
      packet-two : two_at whole 5 ≡ some (length text + 2)
      unfolding packet_with two_at
      packet-two =
          let first = soh ∷ zero_byte ∷ dest ∷ source ∷ kind ∷ [] in
          let text-on = stx ∷ (text ++ (etx ∷ [])) in
          let last = xor_of cover ∷ cr ∷ [] in
          let written = length_digits text in
          let message = same-append written digits text-on text-on counted (same-itself text-on) in
          let all = same-append (written ++ text-on) (digits ++ text-on) last last message (same-itself last) in
          same-two _ whole (same-append first first _ _ (same-itself first) all) 5 ∙ two_back (length text + 2) (omega arith)

      pub size-packet : size whole ≡ length text + 11
      unfolding size
      size-packet = rw packet-two (omega arith)

      pub text-packet : packet_text whole ≡ text
      unfolding packet_text
      text-packet =
          let n = size whole - 11 in
          let e : length text ≡ n = rw size-packet (omega arith) in
          let behind = etx ∷ xor_of cover ∷ cr ∷ [] in
          ap (λ (p : List ℕ). take n (drop 8 p)) packet-parts
          ∙ two_bytes (λ d. take n (drop 8 (soh ∷ zero_byte ∷ dest ∷ source ∷ kind ∷ (d ++ (stx ∷ text)) ++ behind)) ≡ text)
          (λ high low. take_at text behind n e) digits pair

      -- the last three bytes
      packet-end : (i : ℕ) → i ≤ 2 → get_or whole (size whole - (3 - i)) 0 ≡ get_or (etx ∷ xor_of cover ∷ cr ∷ []) i 0
      packet-end i h =
          let e : length text + 11 - (3 - i) ≡ length front + i = simp length-append (omega (arith, pair)) in
          rw (size-packet, e, packet-parts, get_or-append-add)

      packet-code : check_code whole ≡ xor_of cover
      unfolding check_code packet_with
      packet-code =
          let e : length cover ≡ size whole - 3 = simp (size-packet, length-append) (omega (arith, pair)) in
          ap xor_of (take_at cover _ _ e)

      pub packet-limits : 2 ≤ length text → is_length whole ≡ true
      unfolding is_length
      packet-limits least = rw (packet-two, le-leb 4 (length text + 2) (omega arith), le-leb (length text + 2) 64 (omega arith))

      pub packet-returns : ends_in_return whole ≡ true
      unfolding ends_in_return
      packet-returns = eq-eqb _ cr (packet-end 2 (omega arith))

      pub packet-checks : has_check_code whole ≡ true
      unfolding has_check_code
      packet-checks = eq-eqb _ _ (packet-end 1 (omega arith) ∙ sym packet-code)

      pub packet-message : is_message whole ≡ true
      unfolding is_message
      packet-message = rw (packet-stx, eq-eqb (get_or whole (size whole - 3) 0) etx (packet-end 0 (omega arith)))

      pub packet-good : packet_verdict whole ≡ good
      unfolding packet_verdict
      packet-good = rw (packet-returns, packet-checks, packet-message)

module _ (dest kind : ℕ) (digits text : List ℕ) (counted : SameDigits (length_digits text) digits) where
  pub header-packet : is_request_type kind ≡ true → 2 ≤ length text → length text ≤ 62 → header_verdict (packet_with dest zero_byte kind digits text) ≡ good
  unfolding header_verdict packet_with
  header-packet k least most = rw (k, packet-limits dest zero_byte kind digits text counted most least)

-- ---- a packet as it is written

pub written-counted : (text : List ℕ) → SameDigits (length_digits text) (length_digits text)
written-counted text = same-itself (length_digits text)

module _ (dest source kind : ℕ) (text : List ℕ) where
  pub written-length : length (packet dest source kind text) ≡ length text + 11
  unfolding packet
  written-length = packet-length dest source kind (length_digits text) text (written-counted text)

  pub written-size : length text ≤ 62 → size (packet dest source kind text) ≡ length text + 11
  unfolding packet
  written-size = size-packet dest source kind (length_digits text) text (written-counted text)

  pub written-text : length text ≤ 62 → packet_text (packet dest source kind text) ≡ text
  unfolding packet
  written-text = text-packet dest source kind (length_digits text) text (written-counted text)

-- ---- what is behind the header leaves its verdict alone

module _ (h t : List ℕ) (seven : 7 ≤ length h) where
  pub size-append : size (h ++ t) ≡ size h
  unfolding size
  size-append = rw (two_at-append h t 5 (omega arith))

  pub header-append : header_verdict (h ++ t) ≡ header_verdict h
  unfolding header_verdict is_length
  header-append =
      rw (
        get_or-append h t 0 1 (omega arith),
        get_or-append h t 0 3 (omega arith),
        get_or-append h t 0 4 (omega arith),
        two_at-append h t 5 (omega arith),
      )

-- ---- what a good header says

-- a test that a good verdict has passed
pub good-passed : (t : Bool) (n : ℕ) (v : Verdict) → cond (not t) (refused n) v ≡ good → (t ≡ true) × (v ≡ good)
good-passed true n v e = (refl, e)
good-passed false n v e = let z : ◌≡◌ {A = ℕ} 0 1 = cc in absurd (omega arith)

limits-size : (o : Option ℕ) → in_limits o ≡ true → (13 ≤ size_from o) × (size_from o ≤ 73)
limits-size none e = let z : ◌≡◌ {A = ℕ} 0 1 = cc in absurd (omega arith)
limits-size (some l) e =
    let b = both (leb 4 l) (leb l 64) e in
    (omega (arith, leb-true 4 l b.0), omega (arith, leb-true l 64 b.1))

pub length-size : (h : List ℕ) → is_length h ≡ true → (13 ≤ size h) × (size h ≤ 73)
unfolding is_length size
length-size h e = limits-size (two_at h 5) e

pub header-size : (h : List ℕ) → header_verdict h ≡ good → (13 ≤ size h) × (size h ≤ 73)
unfolding header_verdict
header-size h e =
    let reserved = good-passed (eqb (get_or h 1 0) zero_byte) 2 _ e in
    let source = good-passed (eqb (get_or h 3 0) zero_byte) 2 _ reserved.1 in
    let type = good-passed (is_request_type (get_or h 4 0)) 3 _ source.1 in
    length-size h (good-passed (is_length h) 4 good type.1).0
