-- A packet that spells a reply is read as that reply.
use borrow.Author.Tests.{le-ltb, le-leb, eq-eqb}
use mathlib.Core.Bool.{true}
use mathlib.Core.List.{List}
use mathlib.Core.Path.{◌≡◌, refl, sym, ◌∙◌, subst}
use Prim.Native.Nat.{ℕ, ◌+◌, ◌-◌, ◌≤◌}
use native.Mathlib.Omega.{arith}
use lib.ListN.{length, get_or}
use Rattle.wire.specs.Digits.{SameDigits}
use Rattle.wire.specs.Packet.{zero_byte, packet_with, size, length_digits}
use Rattle.wire.proofs.CaseLaws.{same_length}
use Rattle.wire.proofs.PacketLaws.{packet-length, size-packet, text-packet, packet-limits, packet-returns, packet-checks, packet-message}
use Rattle.messages.specs.Message.{Reply, IsReply}
use Rattle.messages.specs.Message.Reply.{null, get_reply, set_reply, power_read_reply, power_control_reply, date_read_reply, date_write_reply, item_reply, tag_write_reply, schedule_reply}
use Rattle.messages.specs.Text.{reply_type, reply_text}
use Rattle.messages.specs.Spelling.{SpellsReply, SpeltReply}
use Rattle.messages.proofs.RoundTrips.{reply-length}
use Rattle.messages.proofs.SpellingLaws.{reply-spelt}
use Rattle.station.specs.Read.{reply, is_reply_type, is_reply_header, is_whole_length, reply_in_message, reply_verdict, read_packet}

reply-type : (r : Reply) → is_reply_type (reply_type r) ≡ true
unfolding reply_type
reply-type null = refl
reply-type (get_reply result page code operation largest value) = refl
reply-type (set_reply result page code operation largest value) = refl
reply-type (power_read_reply status mode) = refl
reply-type (power_control_reply status mode) = refl
reply-type (date_read_reply d) = refl
reply-type (date_write_reply status d) = refl
reply-type (item_reply i bytes) = refl
reply-type (tag_write_reply status tag) = refl
reply-type (schedule_reply r) = refl

module _ (id kind : ℕ) (digits text : List ℕ) where
  abbrev sent : List ℕ
  sent = packet_with zero_byte (0x40 + id) kind digits text

  sent-header : 1 ≤ id → id ≤ 8 → is_reply_type kind ≡ true → is_reply_header sent ≡ true
  unfolding is_reply_header packet_with
  sent-header least most k = rw (le-leb 0x41 (0x40 + id) (omega arith), le-leb (0x40 + id) 0x48 (omega arith), k)

  sent-source : get_or sent 3 0 - 0x40 ≡ id
  unfolding packet_with
  sent-source = omega arith

  sent-kind : get_or sent 4 0 ≡ kind
  unfolding packet_with
  sent-kind = refl

  module _ (counted : SameDigits (length_digits text) digits) (least : 2 ≤ length text) (most : length text ≤ 62) where
    sent-whole : is_whole_length sent ≡ true
    unfolding is_whole_length
    sent-whole =
        let sized = size-packet zero_byte (0x40 + id) kind digits text counted most in
        let long = packet-length zero_byte (0x40 + id) kind digits text counted in
        rw (packet-limits zero_byte (0x40 + id) kind digits text counted most least, eq-eqb (size sent) (length sent) (sized ∙ sym long))

module _ (id : ℕ) (r : Reply) (first : 1 ≤ id) (last : id ≤ 8) (h : IsReply r) where
  text-read : (digits text : List ℕ) → SameDigits (length_digits text) digits → SpellsReply r text
      → read_packet (packet_with zero_byte (0x40 + id) (reply_type r) digits text) ≡ reply id r
  unfolding read_packet reply_verdict reply_in_message
  text-read digits text counted said =
      let a = 0x40 + id in
      let kind = reply_type r in
      let n = same_length (reply_text r) text said.digits in
      let l = reply-length r h in
      let least : 2 ≤ length text = omega (arith, l.0) in
      let most : length text ≤ 62 = omega (arith, l.1) in
      let long = packet-length zero_byte a kind digits text counted in
      rw (
        le-ltb (length (packet_with zero_byte a kind digits text)) 13 (omega arith),
        sent-header id kind digits text first last (reply-type r),
        sent-whole id kind digits text counted least most,
        packet-returns zero_byte a kind digits text counted most,
        packet-checks zero_byte a kind digits text counted most,
        packet-message zero_byte a kind digits text counted most,
        sent-source id kind digits text,
        sent-kind id kind digits text,
        text-packet zero_byte a kind digits text counted most,
        reply-spelt r text h said,
      )

  pub spelt_read : (p : List ℕ) → SpeltReply (0x40 + id) r p → read_packet p ≡ reply id r
  spelt_read p s = subst (λ (p : List ℕ). read_packet p ≡ reply id r) (sym s.whole) (text-read s.digits s.text s.counted s.said)
