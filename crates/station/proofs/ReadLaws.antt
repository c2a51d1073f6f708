-- What the reader's tests say of a packet.
use borrow.Author.Tests.{leb-true, eqb-true, ltb-false, le-ltb}
use mathlib.Core.Bool.{Bool, true, false, cond, ◌&&◌}
use mathlib.Core.List.{List}
use mathlib.Core.Path.{◌≡◌, refl, sym, ap, ◌∙◌}
use Prim.Native.Nat.{ℕ, ◌-◌, ◌≤◌}
use native.Mathlib.Omega.{arith}
use lib.Dec.{leb, ltb, eqb}
use lib.ListN.{length, get_or, take, drop, take-append-drop}
use lib.Seq.{length-take-le}
use Rattle.wire.specs.Digits.{two_at}
use Rattle.wire.specs.Packet.{soh, zero_byte, least_id, most_id, address_of, least_packet, size, packet_text}
use Rattle.wire.specs.Judge.{Verdict, good, refused, is_length, ends_in_return, has_check_code}
use Rattle.wire.specs.Inner.{Whole}
use Rattle.wire.proofs.Tests.{both}
use Rattle.wire.proofs.DigitLaws.{two_at-append}
use Rattle.wire.proofs.PacketLaws.{good-passed}
use Rattle.messages.specs.Message.{Reply}
use Rattle.station.specs.Read.{PacketReading, reply, is_source, is_reply_type, is_reply_header, is_whole_length, reply_size, reply_verdict, unless_refused, read_packet}

-- a test that a good verdict has not met
good-passed_not : (t : Bool) (n : ℕ) (v : Verdict) → cond t (refused n) v ≡ good → (t ≡ false) × (v ≡ good)
good-passed_not false n v e = (refl, e)
good-passed_not true n v e = let z : ◌≡◌ {A = ℕ} 0 1 = cc in absurd (omega arith)

module _ (p : List ℕ) where
  -- the header's bytes, but its type and its length
  pub record Header : Type 0 where
    pub start : get_or p 0 0 ≡ soh
    pub reserved : get_or p 1 0 ≡ zero_byte
    pub station : get_or p 2 0 ≡ zero_byte
    pub least : address_of least_id ≤ get_or p 3 0
    pub most : get_or p 3 0 ≤ address_of most_id

  header_told : is_reply_header p ≡ true → Header
  unfolding is_reply_header
  header_told e =
      let start = eqb (get_or p 0 0) soh in
      let reserved = eqb (get_or p 1 0) zero_byte in
      let station = eqb (get_or p 2 0) zero_byte in
      let source = is_source (get_or p 3 0) in
      let four = both (start && reserved && station) source (both (start && reserved && station && source) (is_reply_type (get_or p 4 0)) e).0 in
      let three = both (start && reserved) station four.0 in
      let two = both start reserved three.0 in
      let monitor = both (leb 0x41 (get_or p 3 0)) (leb (get_or p 3 0) 0x48) four.1 in
      record {
        start = eqb-true (get_or p 0 0) soh two.0;
        reserved = eqb-true (get_or p 1 0) zero_byte two.1;
        station = eqb-true (get_or p 2 0) zero_byte three.1;
        least = leb-true 0x41 (get_or p 3 0) monitor.0;
        most = leb-true (get_or p 3 0) 0x48 monitor.1;
      }

  whole_packet : 13 ≤ length p → is_whole_length p ≡ true → Whole p
  unfolding is_whole_length
  whole_packet h e = record { least = h; sized = eqb-true (size p) (length p) (both (is_length p) (eqb (size p) (length p)) e).1 }

  good_digits : is_whole_length p ≡ true → is_length p ≡ true
  unfolding is_whole_length
  good_digits e = (both (is_length p) (eqb (size p) (length p)) e).0

  -- what a packet that is not refused with 30 to 34 is
  pub record GoodReply : Type 0 where
    pub whole : Whole p
    pub digits : is_length p ≡ true
    pub header : Header
    pub end : ends_in_return p ≡ true
    pub code : has_check_code p ≡ true

  pub good_reply : reply_verdict p ≡ good → GoodReply
  unfolding reply_verdict
  good_reply e =
      let long = good-passed_not (ltb (length p) least_packet) 30 _ e in
      let header = good-passed (is_reply_header p) 31 _ long.1 in
      let sized = good-passed (is_whole_length p) 32 _ header.1 in
      let end = good-passed (ends_in_return p) 33 _ sized.1 in
      let code = good-passed (has_check_code p) 34 good end.1 in
      record {
        whole = whole_packet (ltb-false (length p) least_packet long.0) sized.0;
        digits = good_digits sized.0;
        header = header_told header.0;
        end = end.0;
        code = code.0;
      }

  pub text_of_whole : Whole p → take (length p - 3 - 8) (drop 8 p) ≡ packet_text p
  unfolding packet_text
  text_of_whole w =
      let e : length p - 3 - 8 ≡ size p - 11 = omega arith in
      rw e

-- ---- a packet that is read

pub not_refused : (v : Verdict) (y : PacketReading) {id : ℕ} {x : Reply} → unless_refused v y ≡ reply id x → (v ≡ good) × (y ≡ reply id x)
not_refused good y e = (refl, e)
not_refused (refused n) y e = let z : ◌≡◌ {A = ℕ} 0 1 = cc in absurd (omega arith)

-- its length digits are among the first seven bytes, and give its length
module _ (p : List ℕ) {id : ℕ} {x : Reply} (e : read_packet p ≡ reply id x) where
  read-good : GoodReply p
  unfolding read_packet
  read-good = good_reply p (not_refused (reply_verdict p) _ e).0

  digits-first : (n : ℕ) → 7 ≤ length (take n p) → two_at p 5 ≡ two_at (take n p) 5
  digits-first n long = ap (λ (s : List ℕ). two_at s 5) (sym (take-append-drop n p)) ∙ two_at-append (take n p) (drop n p) 5 (omega arith)

  pub read-framed : (n : ℕ) → 7 ≤ n → n ≤ length p → reply_size (take n p) ≡ length p
  unfolding reply_size is_length size
  read-framed n least most =
      let long : 7 ≤ length (take n p) = rw (length-take-le n p most) least in
      rw (le-ltb (length (take n p)) 7 long, ← digits-first n long, read-good.digits) read-good.whole.sized
