-- A packet that the reader takes is refused once one byte of it is changed: two lists that pass the tests and differ in one place at most are the same.
use borrow.Author.Tests.{eqb-true}
use mathlib.Core.List.{List, [], ◌∷◌}
use mathlib.Core.Logic.{⊎_elim}
use mathlib.Core.Option.{Option, none, some}
use mathlib.Core.Path.{◌≡◌, refl, sym, ap, ◌∙◌, subst}
use Prim.Native.Nat.{ℕ, zero, suc, ◌-◌, ◌/◌, ◌≤◌, ◌<◌}
use native.Mathlib.Nat.{not-suc-le-zero, le_of_suc-le-suc, eq-or-lt_of_le}
use native.Mathlib.Omega.{arith}
use lib.Arith.{bin_ind}
use lib.Bits.{bit_xor, xor_comm, xor_shr, xor_add_and}
use lib.ListN.{length, get_or, take, drop, set, length-set, length-take}
use lib.Seq.{get_or-set_same, get_or-set_other, get_or-take, take-set-le, take-set-lt}
use Rattle.wire.specs.Packet.{soh, cr, address_base, xor_from, xor_of, size, check_code}
use Rattle.wire.specs.Judge.{ends_in_return, has_check_code}
use Rattle.wire.specs.Judge as judge
use Rattle.messages.specs.Message.{Reply}
use Rattle.replies.specs.View.{or_refused}
use Rattle.station.specs.Read.{
  PacketReading,
  reply,
  refused,
  sent_by,
  reply_in_message,
  reply_verdict,
  unless_refused,
  read_packet,
}
use Rattle.station.proofs.ReadLaws.{good_reply}

-- ---- an exclusive or is another once one of its numbers is

-- the lowest digit by the sum, the others by halving
xor-cancel : (a b c : ℕ) → bit_xor a b ≡ bit_xor a c → b ≡ c
xor-cancel =
    bin_ind (λ (n : ℕ). (b c : ℕ) → bit_xor n b ≡ bit_xor n c → b ≡ c) (λ b c e. e)
    (λ n ih b c e.
    let halves = ih (b / 2) (c / 2) (sym (xor_shr n b 1) ∙ ap (λ (x : ℕ). x / 2) e ∙ xor_shr n c 1) in
    omega (arith, xor_add_and n b, xor_add_and n c))

xor_from-cancel : (a c : ℕ) (s : List ℕ) → xor_from a s ≡ xor_from c s → a ≡ c
unfolding xor_from
xor_from-cancel a c [] e = e
xor_from-cancel a c (x ∷ s) e =
    xor-cancel x a c (xor_comm x a ∙ xor_from-cancel (bit_xor a x) (bit_xor c x) s e ∙ xor_comm c x)

xor_from-set : (a : ℕ) (s : List ℕ) (i b : ℕ) → i < length s → xor_from a (set s i b) ≡ xor_from a s → b ≡ get_or s i 0
unfolding xor_from
xor_from-set a [] i b h e = absurd (not-suc-le-zero h)
xor_from-set a (x ∷ s) zero b h e = xor-cancel a b x (xor_from-cancel (bit_xor a b) (bit_xor a x) s e)
xor_from-set a (x ∷ s) (suc i) b h e = xor_from-set (bit_xor a x) s i b (le_of_suc-le-suc h) e

-- ---- what is known of a packet that the reader takes

record Taken (p : List ℕ) : Type 0 where
  start : get_or p 0 0 ≡ soh
  code : get_or p (length p - 2) 0 ≡ xor_of (take (length p - 3) (drop 1 p))
  end : get_or p (length p - 1) 0 ≡ cr

-- what a reply shows of the list it was read from
abbrev Shows : List ℕ → PacketReading → Type 0
Shows p (reply id r) = Taken p
Shows p (refused n) = Unit {0}

module _ (p : List ℕ) where
  read-shows : (id : ℕ) (o : Option Reply) → Taken p → Shows p (sent_by id (or_refused o))
  read-shows id none t = tt
  read-shows id (some r) t = t

  good-taken : reply_verdict p ≡ judge.good → Taken p
  unfolding ends_in_return has_check_code check_code
  good-taken e =
      let g = good_reply p e in
      let n = size p in
      record {
        start = g.header.start;
        code = rw g.whole.sized at (eqb-true (get_or p (n - 2) 0) (xor_of (take (n - 3) (drop 1 p))) g.code);
        end = rw g.whole.sized at (eqb-true (get_or p (n - 1) 0) cr g.end);
      }

  judged_shows : (v : judge.Verdict) (x : PacketReading) → (v ≡ judge.good → Shows p x) → Shows p (unless_refused v x)
  judged_shows judge.good x f = f refl
  judged_shows (judge.refused n) x f = tt

  read_taken : Shows p (read_packet p)
  unfolding read_packet
  read_taken = judged_shows (reply_verdict p) _ (λ e. read-shows (get_or p 3 0 - address_base) (reply_in_message p) (good-taken e))

-- ---- two lists that the reader takes, alike but for one place

-- behind the first byte
module _ (x k b : ℕ) (t : List ℕ) (h : k < length t) (was : Taken (x ∷ t)) (now : Taken (x ∷ set t k b)) where
  abbrev total : ℕ
  total = length (x ∷ t)

  code-now : get_or (x ∷ set t k b) (total - 2) 0 ≡ xor_of (take (total - 3) (set t k b))
  code-now = rw (length-set t k b) at now.code

  end_now : get_or (x ∷ set t k b) (total - 1) 0 ≡ cr
  end_now = rw (length-set t k b) at now.end

  same_at : (m : ℕ) → suc k ≡ m → get_or (x ∷ set t k b) m 0 ≡ get_or (x ∷ t) m 0 → b ≡ get_or t k 0
  same_at m e f = sym (get_or-set_same t k b 0 h) ∙ rw (← e) at f

  -- the check code itself, which is not among what it covers
  code_same : suc k ≡ total - 2 → b ≡ get_or t k 0
  code_same e = same_at (total - 2) e (code-now ∙ ap xor_of (take-set-le (total - 3) t k b (omega arith)) ∙ sym was.code)

  -- a place that the check code covers
  covered_same : suc k < total - 2 → b ≡ get_or t k 0
  covered_same l =
      let s = take (total - 3) t in
      let here : k < length s = rw length-take (omega arith) in
      let inside : k < total - 3 = omega arith in
      let byte = get_or-set_other (x ∷ t) (suc k) (total - 2) b 0 (λ e. omega arith) in
      let sum = ap xor_of (sym (take-set-lt (total - 3) t k b inside)) ∙ sym code-now ∙ byte ∙ was.code in
      xor_from-set 0 s k b here sum ∙ get_or-take (total - 3) t k 0 inside

  behind-same : b ≡ get_or t k 0
  behind-same =
      let place : suc (suc k) ≤ total = omega arith in
      ⊎_elim (λ e. same_at (total - 1) (omega arith) (end_now ∙ sym was.end))
      (λ l. ⊎_elim (λ e. code_same (omega arith)) (λ m. covered_same (omega arith)) (eq-or-lt_of_le l))
      (eq-or-lt_of_le place)

one_same : (p : List ℕ) (i b : ℕ) → i < length p → Taken p → Taken (set p i b) → b ≡ get_or p i 0
one_same [] i b h was now = absurd (not-suc-le-zero h)
one_same (x ∷ t) zero b h was now = now.start ∙ sym was.start
one_same (x ∷ t) (suc k) b h was now = behind-same x k b t (le_of_suc-le-suc h) was now

-- ---- refused

-- refused, with any number
pub data Refused : PacketReading → Type 0 where
  is_refused : (n : ℕ) → Refused (refused n)

refused-unless : (p : List ℕ) (x : PacketReading) → Shows p x → (Taken p → ⊥) → Refused x
refused-unless p (reply id r) t f = absurd (f t)
refused-unless p (refused n) t f = is_refused n

pub one-byte_changed : (p : List ℕ) (id : ℕ) (r : Reply) (i b : ℕ) → read_packet p ≡ reply id r → i < length p → (b ≡ get_or p i 0 → ⊥)
    → Refused (read_packet (set p i b))
one-byte_changed p id r i b e h other =
    refused-unless (set p i b) (read_packet (set p i b)) (read_taken (set p i b))
    (λ now. other (one_same p i b h (subst (Shows p) e (read_taken p)) now))
