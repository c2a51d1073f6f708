-- What a byte leaves, by the tests on the buffers and on whether an erase begins.
use Prim.Native.Nat.{ℕ, ◌+◌, ◌-◌, ◌^◌, ◌≤◌, ◌<◌}
use mathlib.Core.Bool.{false, ◌&&◌}
use mathlib.Core.List.{List, [], ◌++◌, append_assoc, append-nil}
use mathlib.Core.Path.{◌≡◌, refl, ◌∙◌}
use native.Mathlib.Nat.{le_refl}
use native.Mathlib.Omega.{arith}
use mir.Syntax.{w64}
use mir.Val.{Fits}
use borrow.Author.Rules.{part_to_end}
use borrow.Rule.Slice.PartMut.{mid_of, put_mid, same_len_mid, mid_len}
use borrow.Author.Tests.{eq-eqb, ne_eqb, le-leb, lt-leb}
use lib.ListN.{length, take, drop, length-append, length-drop, drop_of_length-le}
use lib.Dec.{eqb, leb}
use lib.Seq.{drop-drop, drop-append_seam}
use Rattle.wire.specs.Packet.{over}
use Rattle.wire.proofs.PacketLaws.{over-take}
use Rattle.calls.specs.Calls.{on_call}
use Rattle.packets.specs.Packets.{BoardState}
use Rattle.board.specs.BoardKind.{byte, board_kind}
use Rattle.board.specs.View.{state_of, answer_of, gave, Result, result}
use Rattle.board.specs.declared.board.Answer.{Answer}
use Rattle.board.specs.declared.board.Done.{Done}
use Rattle.transcript.specs.Transcript.{line_of, transcribed_from, fed, Transcribed, Told}
use Rattle.transcript.specs.Inner.{Lined, erased_by, erased_from}
use Rattle.transcript.proofs.LineLaws.{not_begun}

-- the lines stand within the buffer
pub lines_fit : {t : Transcribed} {s : BoardState} {n : ℕ} {m lent o o₁ : List ℕ} → Told t s n m lent o o₁ → n ≤ length o₁
unfolding over
lines_fit {t} {s} {n} {m} {lent} {o} {o₁} told =
    let l : length o₁ ≡ length t.lines + (length o - length t.lines) = rw (told.written, length-append, length-drop) in
    omega (arith, told.count)

-- and lines that are written from a place on end within the whole
module _ (start n : ℕ) (o part : List ℕ) (t : Transcribed) (s : BoardState) (m lent : List ℕ) (within : start ≤ length o)
    (told : Told t s n m lent (mid_of start (length o - start) o) part) (kept : length part ≡ length (mid_of start (length o - start) o)) where
  end_within : start + n ≤ length o
  end_within = let fit = lines_fit told in omega (arith, mid_len start (length o) o (le_refl _))

  pub lines-counted : length o < 2 ^ 64 → Fits w64 (start + n)
  lines-counted h = let end = end_within in record { fits = omega arith }

  pub lines-within : start + n ≤ length (put_mid start (length o - start) o part)
  lines-within = rw (same_len_mid start (length o - start) o part kept) end_within

module _ (at b : ℕ) (s : BoardState) (m lent o : List ℕ) where
  nothing-told : eqb (length lent) 64 && leb 512 (length o) ≡ false → Told (fed at b s m lent (length o)) s 0 m lent o o
  unfolding fed over
  nothing-told e = rw e (record { state = refl; count = refl; stored = refl; buffer = refl; written = refl })

  pub wrong_reply : (length lent ≡ 64 → ⊥) → Told (fed at b s m lent (length o)) s 0 m lent o o
  wrong_reply h = nothing-told (rw (ne_eqb (length lent) 64 h))

  pub no_room : length lent ≡ 64 → length o < 512 → Told (fed at b s m lent (length o)) s 0 m lent o o
  no_room h k = nothing-told (rw (eq-eqb (length lent) 64 h, lt-leb 512 (length o) k))

  -- what a call gave is told where the buffers have their lengths
  pub told-fed : (r : Result) (t : BoardState) (n : ℕ) (m' lent' o₁ : List ℕ) → Told (transcribed_from at r) t n m' lent' o o₁
      → r ≡ result (on_call board_kind (byte b) s m lent) m → length lent ≡ 64 → 512 ≤ length o → Told (fed at b s m lent (length o)) t n m' lent' o o₁
  unfolding fed
  told-fed r t n m' lent' o₁ told done whole room = rw (eq-eqb (length lent) 64 whole, le-leb 512 (length o) room, ← done) told

-- ---- the lines of what a call gave

module _ (at : ℕ) (d : Done) (m lent o : List ℕ) (n : ℕ) (o₁ : List ℕ)
    (line : Lined at (answer_of d.answer) lent n o o₁) where
  pub told-once : (d.answer ≡ Answer.Begun → ⊥) → Told (transcribed_from at (gave d m lent)) (state_of d.board) n m lent o o₁
  unfolding transcribed_from
  told-once k = rw (not_begun d.answer k) (record { state = refl; count = line.0; stored = refl; buffer = refl; written = line.1 })

  -- the second line goes into the part of the buffer behind the first
  pub told-twice : (s : BoardState) (k : ℕ) (m' lent' o₂ : List ℕ)
      → Told (erased_from at (state_of d.board) m lent) s k m' lent' (mid_of n (length o₁ - n) o₁) o₂ → d.answer ≡ Answer.Begun
      → Told (transcribed_from at (gave d m lent)) s (n + k) m' lent' o (put_mid n (length o₁ - n) o₁ o₂)
  unfolding transcribed_from over
  told-twice s k m' lent' o₂ told e =
      let first = line_of at (answer_of d.answer) lent in
      let second = (erased_from at (state_of d.board) m lent).lines in
      let front : take n o₁ ≡ first = rw (line.0, line.1) (over-take first o (length first) refl) in
      let rest : drop n o₁ ≡ drop (length first) o = rw (line.0, line.1) (drop-append_seam first (drop (length first) o)) in
      let l : length (drop n o₁) ≤ length o₁ - n = rw length-drop (omega arith) in
      let none : drop (length o₁ - n) (drop n o₁) ≡ [] = drop_of_length-le (drop n o₁) l in
      let behind : o₂ ≡ second ++ drop (length first + length second) o =
      told.written ∙ rw (part_to_end o₁ n, rest, drop-drop (length second) (length first) o) in
      let sum : n + k ≡ length (first ++ second) = rw (line.0, told.count, length-append first second) in
      let whole : put_mid n (length o₁ - n) o₁ o₂ ≡ over (first ++ second) o =
      rw (front, none, append-nil o₂, behind, length-append first second, append_assoc first second (drop (length first + length second) o)) in
      rw e (record { state = told.state; count = rw e at sum; stored = told.stored; buffer = told.buffer; written = rw e at whole })

-- the line of an erase's last step
pub told-erase : (at : ℕ) (d : Done) (s : BoardState) (m lent m' lent' o : List ℕ) (n : ℕ) (o₁ : List ℕ)
    → gave d m' lent' ≡ erased_by s m lent → Lined at (answer_of d.answer) lent' n o o₁
    → Told (erased_from at s m lent) (state_of d.board) n m' lent' o o₁
told-erase at d s m lent m' lent' o n o₁ e line =
    rw (← e) (record { state = refl; count = line.0; stored = refl; buffer = refl; written = line.1 })
