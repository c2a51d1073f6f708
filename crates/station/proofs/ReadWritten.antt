-- A packet that the reader takes spells the reply that it reads: it is that reply's packet but for the case of digits, with the check code of its own bytes.
use borrow.Author.Tests.{eqb-true}
use mathlib.Core.Bool.{Bool, true, false, cond}
use mathlib.Core.List.{List, [], ◌∷◌, ◌++◌}
use mathlib.Core.Option.{Option, none, some, none-ne-some}
use mathlib.Core.Path.{◌≡◌, refl, sym, ap, ap₂, ◌∙◌}
use Prim.Native.Nat.{ℕ, suc, ◌+◌, ◌-◌, ◌≤◌}
use native.Mathlib.Omega.{arith}
use lib.Dec.{eqb}
use lib.ListN.{length, get_or, take, drop, length-append, length-drop, take-append-drop, drop_of_length-le}
use lib.Seq.{length-take-le, drop-cons, drop-drop, take_at, append_snoc}
use Rattle.wire.specs.Digits.{two, two_at, SameDigits}
use Rattle.wire.specs.Packet.{soh, stx, etx, cr, zero_byte, address_base, xor_of, covered, packet_with, size_from, size, check_code, packet_text}
use Rattle.wire.specs.Judge.{ends_in_return, has_check_code, is_message}
use Rattle.wire.proofs.Tests.{both}
use Rattle.messages.specs.Message.{Reply, IsReply}
use Rattle.messages.specs.Read.{reply_in}
use Rattle.messages.specs.Spelling.{SpeltReply}
use Rattle.messages.proofs.WrittenBack.{two-written}
use Rattle.messages.proofs.RepliesWrittenBack.{reply-written_back}
use Rattle.replies.specs.View.{or_refused}
use Rattle.station.specs.Read.{reply, sent_by, reply_in_message, reply_verdict, read_packet}
use Rattle.station.proofs.ReadLaws.{GoodReply, good_reply, not_refused}

-- ---- a list that passes the reader's tests is a packet

-- length digits that give a size
size-told : (o : Option ℕ) (n : ℕ) → size_from o ≡ 11 + n → o ≡ some (n + 2)
size-told none n e = absurd (omega arith)
size-told (some l) n e = ap some (omega arith)

module _ (p : List ℕ) (g : GoodReply p) (m : is_message p ≡ true) where
  -- how many bytes the text has; places behind it are said from its end
  abbrev n : ℕ
  n = length (packet_text p)

  text-length : length p ≡ 11 + n
  unfolding packet_text
  text-length =
      let rest = length-drop 8 p in
      let w = g.whole in
      let e = length-take-le (size p - 11) (drop 8 p) (omega (arith, w.sized)) in
      omega (arith, w.sized, w.least)

  sized : size p ≡ 11 + n
  sized = g.whole.sized ∙ text-length

  digits : two_at p 5 ≡ some (n + 2)
  unfolding size
  digits = size-told (two_at p 5) n sized

  message_bounds : (get_or p 7 0 ≡ stx) × (get_or p (8 + n) 0 ≡ etx)
  unfolding is_message
  message_bounds =
      let e : size p - 3 ≡ 8 + n = omega (arith, sized) in
      let b = both (eqb (get_or p 7 0) stx) (eqb (get_or p (size p - 3) 0) etx) m in
      (eqb-true (get_or p 7 0) stx b.0, rw e at (eqb-true (get_or p (size p - 3) 0) etx b.1))

  code : get_or p (9 + n) 0 ≡ check_code p
  unfolding has_check_code
  code =
      let e : size p - 2 ≡ 9 + n = omega (arith, sized) in
      rw e at (eqb-true (get_or p (size p - 2) 0) (check_code p) g.code)

  ends : get_or p (10 + n) 0 ≡ cr
  unfolding ends_in_return
  ends =
      let e : size p - 1 ≡ 10 + n = omega (arith, sized) in
      rw e at (eqb-true (get_or p (size p - 1) 0) cr g.end)

  last : drop (8 + n) p ≡ etx ∷ check_code p ∷ cr ∷ []
  last =
      let l = text-length in
      let second : suc (8 + n) ≡ 9 + n = omega arith in
      let third : suc (9 + n) ≡ 10 + n = omega arith in
      let nothing : length p ≤ suc (10 + n) = omega arith in
      rw (
        drop-cons p (8 + n) 0 (omega arith),
        second,
        drop-cons p (9 + n) 0 (omega arith),
        third,
        drop-cons p (10 + n) 0 (omega arith),
        drop_of_length-le p nothing,
        message_bounds.1,
        code,
        ends,
      )

  text-first : take n (drop 8 p) ≡ packet_text p
  unfolding packet_text
  text-first = let e : n ≡ size p - 11 = omega (arith, sized) in rw e

  behind-header : drop 8 p ≡ packet_text p ++ (etx ∷ check_code p ∷ cr ∷ [])
  behind-header = sym (take-append-drop n (drop 8 p)) ∙ ap₂ (λ (s t : List ℕ). s ++ t) text-first (drop-drop n 8 p ∙ last)

  header-first : p ≡ soh ∷ zero_byte ∷ zero_byte ∷ get_or p 3 0 ∷ get_or p 4 0 ∷ drop 5 p
  header-first =
      let l = text-length in
      let h = g.header in
      drop-cons p 0 0 (omega arith) ∙
      rw (
        drop-cons p 1 0 (omega arith),
        drop-cons p 2 0 (omega arith),
        drop-cons p 3 0 (omega arith),
        drop-cons p 4 0 (omega arith),
        h.start,
        h.reserved,
        h.station,
      )

  abbrev counts : List ℕ
  counts = get_or p 5 0 ∷ get_or p 6 0 ∷ []

  abbrev cover : List ℕ
  cover = covered zero_byte (get_or p 3 0) (get_or p 4 0) counts (packet_text p)

  -- the packet, but that its check code is said from p
  parts : p ≡ soh ∷ (cover ++ (check_code p ∷ cr ∷ []))
  parts =
      let l = text-length in
      let body = ap₂ (λ (b : ℕ) (s : List ℕ). b ∷ s) message_bounds.0 behind-header in
      let text = sym (append_snoc (packet_text p) etx (check_code p ∷ cr ∷ [])) in
      header-first
      ∙ ap (λ (s : List ℕ). soh ∷ zero_byte ∷ zero_byte ∷ get_or p 3 0 ∷ get_or p 4 0 ∷ s)
      (drop-cons p 5 0 (omega arith) ∙ rw (drop-cons p 6 0 (omega arith), drop-cons p 7 0 (omega arith), body, text))

  code-covers : check_code p ≡ xor_of cover
  unfolding check_code
  code-covers =
      let e : length cover ≡ size p - 3 = simp length-append (omega (arith, sized)) in
      ap (λ (q : List ℕ). xor_of (take (size p - 3) (drop 1 q))) parts ∙ ap xor_of (take_at cover (check_code p ∷ cr ∷ []) (size p - 3) e)

  counted : SameDigits (two (n + 2)) counts
  unfolding two_at SameDigits
  counted = two-written (get_or p 5 0) (get_or p 6 0) [] [] digits tt

  packet-framed : p ≡ packet_with zero_byte (get_or p 3 0) (get_or p 4 0) counts (packet_text p)
  unfolding packet_with
  packet-framed = parts ∙ ap (λ (x : ℕ). soh ∷ (cover ++ (x ∷ cr ∷ []))) code-covers

-- ---- what the reader read

sent-told : (k : ℕ) (o : Option Reply) {id : ℕ} {r : Reply} → sent_by k (or_refused o) ≡ reply id r → (k ≡ id) × (o ≡ some r)
sent-told k none e = let z : ◌≡◌ {A = ℕ} 0 1 = cc in absurd (omega arith)
sent-told k (some x) e = (cc, cc)

message_told : (t : Bool) (o : Option Reply) {r : Reply} → cond t o none ≡ some r → (t ≡ true) × (o ≡ some r)
message_told true o e = (refl, e)
message_told false o {r} e = absurd (none-ne-some r e)

pub read-written : (p : List ℕ) {id : ℕ} {r : Reply} → read_packet p ≡ reply id r
    → IsReply r × ((1 ≤ id) × (id ≤ 8)) × SpeltReply (0x40 + id) r p
unfolding read_packet reply_in_message
read-written p {id} {r} e =
    let told = not_refused (reply_verdict p) _ e in
    let g = good_reply p told.0 in
    let read = sent-told (get_or p 3 0 - address_base) (reply_in_message p) told.1 in
    let found = message_told (is_message p) (reply_in (get_or p 4 0) (packet_text p)) read.1 in
    let back = reply-written_back (get_or p 4 0) (packet_text p) found.1 in
    let least = g.header.least in
    let most = g.header.most in
    let source : get_or p 3 0 ≡ 0x40 + id = omega (arith, read.0) in (
      back.0,
      (omega arith, omega arith),
      record {
        digits = counts p g found.0;
        text = packet_text p;
        counted = counted p g found.0;
        said = back.2;
        whole = packet-framed p g found.0 ∙ rw (source, back.1);
      },
    )
