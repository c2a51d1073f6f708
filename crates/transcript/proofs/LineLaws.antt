-- What the tests on an answer say of it, how long a line and its parts are, and that parts written one behind the other are the line.
use Prim.Native.Nat.{ℕ, ◌+◌, ◌≤◌}
use mathlib.Core.Bool.{Bool, true, false, not}
use borrow.Author.Tests.{not-true, not-false}
use mathlib.Core.List.{List, [], ◌∷◌, ◌++◌, append_assoc}
use mathlib.Core.Path.{◌≡◌, refl, ◌∙◌}
use native.Mathlib.Omega.{arith}
use native.Mathlib.Nat.{min-le_right}
use lib.ListN.{length, take, set, length-set, length-append, length-take}
use lib.Seq.{paste, length-take-le}
use Rattle.wire.specs.Digits.{hex_of}
use Rattle.wire.specs.Packet.{over}
use Rattle.wire.specs.Refusal.{number_of}
use Rattle.wire.specs.declared.refusal.Refusal.{Refusal}
use Rattle.wire.proofs.Tests.{cond-by}
use Rattle.wire.proofs.DigitLaws.{hex_length}
use Rattle.wire.proofs.PacketLaws.{over-paste, over-set}
use Rattle.calls.specs.Board as calls
use Rattle.board.specs.View.{answer_of}
use Rattle.board.specs.declared.board.Answer.{Answer}
use Rattle.board.proofs.Answers.{IsNoRefusal, IsNoReply}
use Rattle.transcript.specs.Transcript.{decimal, word_of, data_of, is_told, is_begun, line_of}
use Rattle.transcript.specs.Inner.{Put, PutFew}
use Rattle.transcript.proofs.PutLaws.{put-none, put_first}
use Rattle.transcript.proofs.DecimalLaws.{digits-few}

-- ---- the tests on an answer

pub not_begun : (a : Answer) → (a ≡ Answer.Begun → ⊥) → is_begun (answer_of a) ≡ false
not_begun Answer.Waiting k = refl
not_begun Answer.Silent k = refl
not_begun Answer.Begun k = absurd (k refl)
not_begun Answer.More k = refl
not_begun Answer.Ended k = refl
not_begun (Answer.Refused r) k = refl
not_begun (Answer.Reply n) k = refl

no_data : (a : Answer) (lent : List ℕ) → IsNoRefusal a → IsNoReply a → data_of (answer_of a) lent ≡ []
no_data Answer.Waiting lent k l = refl
no_data Answer.Silent lent k l = refl
no_data Answer.Begun lent k l = refl
no_data Answer.More lent k l = refl
no_data Answer.Ended lent k l = refl
no_data (Answer.Refused r) lent k l = absurd (k r refl)
no_data (Answer.Reply n) lent k l = absurd (l n refl)

-- ---- how long a line is

word-few : (a : calls.Answer ℕ) → length (word_of a) ≤ 8
word-few calls.waiting = omega arith
word-few calls.silent = omega arith
word-few calls.begun = omega arith
word-few calls.more = omega arith
word-few calls.ended = omega arith
word-few (calls.refused n) = omega arith
word-few (calls.reply n) = omega arith

take-few : (n : ℕ) (s : List ℕ) → length (take n s) ≤ length s
take-few n s = rw length-take (min-le_right n (length s))

data_few : (a : calls.Answer ℕ) (lent : List ℕ) → length lent ≡ 64 → length (data_of a lent) ≤ 130
data_few calls.waiting lent h = omega arith
data_few calls.silent lent h = omega arith
data_few calls.begun lent h = omega arith
data_few calls.more lent h = omega arith
data_few calls.ended lent h = omega arith
data_few (calls.refused n) lent h = omega (arith, digits-few 20 n)
data_few (calls.reply n) lent h = omega (arith, hex_length (take n lent), take-few n lent)

line_few : (at : ℕ) (a : calls.Answer ℕ) (lent : List ℕ) → length lent ≡ 64 → length (line_of at a lent) ≤ 159
unfolding line_of
line_few at a lent h =
    cond-by (λ (s : List ℕ). length s ≤ 159) (is_told a) _ _
    (λ _. simp length-append (omega (arith, digits-few 20 at, word-few a, data_few a lent h))) (λ _. omega arith)

pub line_most : (at : ℕ) (a : calls.Answer ℕ) (lent : List ℕ) (n : ℕ) → n ≡ length (line_of at a lent) → length lent ≡ 64 → n ≤ 159
line_most at a lent n e h = rw e (line_few at a lent h)

-- ---- parts written one behind the other

-- an answer that is told: n₁, n₂ and n₃ are the places behind its number, word and data, each within its most bytes
module _ (at : ℕ) (a : Answer) (lent o : List ℕ) (n₁ : ℕ) (o₁ : List ℕ) (n₂ : ℕ) (o₂ : List ℕ) (n₃ : ℕ) (o₃ : List ℕ)
    (p₁ : PutFew 20 o 0 (decimal at) n₁ o₁) (p₂ : PutFew 8 o₁ n₁ (word_of (answer_of a)) n₂ o₂)
    (p₃ : PutFew 129 o₂ n₂ (data_of (answer_of a) lent) n₃ o₃) (t : Bool) (told : t ≡ is_told (answer_of a)) (k : not t ≡ false) where
  abbrev front : List ℕ
  front = decimal at ++ word_of (answer_of a) ++ data_of (answer_of a) lent

  whole-line : line_of at (answer_of a) lent ≡ front ++ (0x0A ∷ [])
  unfolding line_of
  whole-line = rw (← told, not-false t k) (simp append_assoc)

  front_length : length front ≡ n₃
  front_length =
      let l₂ = length-append (decimal at) (word_of (answer_of a)) in
      let l₃ = length-append (decimal at ++ word_of (answer_of a)) (data_of (answer_of a) lent) in
      omega arith

  pub line_count : n₃ + 1 ≡ length (line_of at (answer_of a) lent)
  line_count = rw (whole-line, length-append) (omega (arith, front_length))

  pub line_over : 192 ≤ length o → set o₃ n₃ 0x0A ≡ over (line_of at (answer_of a) lent) o
  unfolding over
  line_over room =
      let number = decimal at in
      let word = word_of (answer_of a) in
      let bytes = data_of (answer_of a) lent in
      let l₂ = length-append number word in
      let f₁ : o₁ ≡ over number o = p₁.0.1 ∙ over-paste [] o 0 refl number in
      let f₂ : o₂ ≡ over (number ++ word) o = p₂.0.1 ∙ rw f₁ (over-paste number o n₁ (omega arith) word) in
      let f₃ : o₃ ≡ over front o = p₃.0.1 ∙ rw f₂ (over-paste (number ++ word) o n₂ (omega arith) bytes) in
      rw (whole-line, f₃) (over-set front o n₃ front_length 0x0A (omega arith))

-- an answer that is not told has no line
module _ (at : ℕ) (a : Answer) (lent : List ℕ) (t : Bool) (told : t ≡ is_told (answer_of a)) (k : not t ≡ true) where
  pub untold-count : 0 ≡ length (line_of at (answer_of a) lent)
  unfolding line_of
  untold-count = rw (← told, not-true t k)

  pub untold-over : (o : List ℕ) → o ≡ over (line_of at (answer_of a) lent) o
  unfolding line_of over
  untold-over o = rw (← told, not-true t k)

-- ---- a word and its data, by the answer

module _ (a : Answer) (o : List ℕ) (at : ℕ) where
  module _ (r : ℕ) (o₁ : List ℕ) where
    pub refusal-put : (lent : List ℕ) (q : Refusal) (n : ℕ) → a ≡ Answer.Refused q → n ≡ number_of q → Put o at (0x20 ∷ decimal n) r o₁
        → Put o at (data_of (answer_of a) lent) r o₁
    refusal-put lent q n e h p = rw (e, ← h) p

    pub reply-put : (lent : List ℕ) (k : ℕ) → a ≡ Answer.Reply k → Put o at (0x20 ∷ hex_of (take k lent)) r o₁
        → Put o at (data_of (answer_of a) lent) r o₁
    reply-put lent k e p = rw e p

  pub no_data_put : (lent : List ℕ) → IsNoRefusal a → IsNoReply a → Put o at (data_of (answer_of a) lent) at o
  no_data_put lent k l = put-none o at _ (no_data a lent k l)

-- ---- a number or bytes in hexadecimal behind a space

pub space_kept : (o o₁ : List ℕ) (at : ℕ) → length o₁ ≡ length (set o at 0x20) → length o₁ ≡ length o
space_kept o o₁ at e = e ∙ simp length-set

pub number_put : (o : List ℕ) (at n r : ℕ) (o₁ : List ℕ) → Put (set o at 0x20) (at + 1) (decimal n) r o₁ → at + 21 ≤ length o
    → Put o at (0x20 ∷ decimal n) r o₁
number_put o at n r o₁ p room = put_first o at 0x20 (decimal n) r o₁ (omega arith) p

module _ (o : List ℕ) (at n : ℕ) (lent : List ℕ) (few : n ≤ length lent) (room : at + 129 ≤ length o) where
  pub hex_room : length lent ≡ 64 → at + 1 + (length (take n lent) + length (take n lent)) ≤ length (set o at 0x20)
  hex_room whole = rw (length-take-le n lent few, length-set o at 0x20) (omega arith)

  pub hex_put : (k : ℕ) (o₁ : List ℕ) → o₁ ≡ paste (set o at 0x20) (at + 1) (hex_of (take n lent)) (length (hex_of (take n lent)))
      → take n lent ≡ take k lent → Put o at (0x20 ∷ hex_of (take k lent)) (at + 1 + n + n) o₁
  hex_put k o₁ p e =
      let l : length (hex_of (take n lent)) ≡ n + n = hex_length (take n lent) ∙ rw (length-take-le n lent few) in
      rw (← e) (put_first o at 0x20 (hex_of (take n lent)) _ o₁ (omega arith) (omega arith, p))
