-- A first byte that is not SOH changes nothing; any other is written behind the held ones, and there is room since a proper beginning is short.
use mir.Syntax.{w8}
use mir.Val.{Fits}
use mathlib.Core.Bool.{true, false, not, ◌&&◌}
use mathlib.Core.List.{List, [], ◌∷◌, ◌++◌}
use mathlib.Core.Path.{◌≡◌, refl, sym, ap, ◌∙◌}
use Prim.Native.Nat.{ℕ, ◌+◌, ◌≤◌, ◌<◌}
use native.Mathlib.Numerals.{add-one}
use native.Mathlib.Omega.{arith}
use borrow.Author.Rules.{rules}
use borrow.Author.Tests.{eqb-true, eqb-false, not-true, not-false}
use lib.Dec.{eqb}
use lib.ListN.{length, take, set, length-take, length-set}
use lib.Seq.{take-suc-set}
use Rattle.wire.specs.Packet.{soh}
use Rattle.wire.specs.Refusal.{changes_nothing}
use Rattle.wire.proofs.Tests.{cond-by, both}
use Rattle.receiver.specs.Receive.{Receipt, refuses, grown, behind, accept, is_proper_beginning}
use Rattle.receiver.specs.Receive as receive
use Rattle.receiver.specs.View.{reception_in}
use Rattle.receiver.specs.Inner.{checkpoint, kept_after, array_after, GrownBeginning}
use Rattle.receiver.specs.declared.Reception.{Reception}
use Rattle.receiver.proofs.Laws.{count-short, one_more, accept-behind, left_by, grown-leaves, grown-changes}
use Rattle.receiver.proofs.advance.Goals as goal

-- so many of the array are held after an answer
left-taken : (r : Reception) (n : ℕ) (a : List ℕ) → take (kept_after r n) a ≡ left_by (reception_in r a) (take n a)
left-taken Reception.Waiting n a = refl
left-taken (Reception.Refused k) n a = refl
left-taken (Reception.Whole k) n a = refl

-- after any answer but a refusal that changes nothing the byte is in the array
byte-there : (a : List ℕ) (n b : ℕ) (r : receive.Reception) → ((k : ℕ) → r ≡ receive.refused k → changes_nothing k ≡ false)
    → set a n b ≡ array_after a n b r
byte-there a n b receive.waiting f = refl
byte-there a n b (receive.refused k) f = rw (f k refl)
byte-there a n b (receive.whole p) f = refl

module _ (n : ℕ) (a : List ℕ) (b : ℕ) (t : (eqb n 0 && not (eqb b soh)) ≡ true) where
  nothing : n ≡ 0
  nothing = eqb-true n 0 (both (eqb n 0) (not (eqb b soh)) t).0

  stray_few : n ≤ 72
  stray_few = omega (arith, nothing)

  stray : refuses 1 ≡ accept (take n a) b
  unfolding accept
  stray = rw (nothing, not-true (eqb b soh) (both (eqb n 0) (not (eqb b soh)) t).1)

  stray_refused : receive.refused 1 ≡ (accept (take n a) b).answer
  stray_refused = ap (λ (r : Receipt). r.answer) stray

  stray_leaves : [] ≡ (accept (take n a) b).held
  stray_leaves = ap (λ (r : Receipt). r.held) stray

  stray_unwritten : a ≡ array_after a n b (accept (take n a) b).answer
  unfolding changes_nothing
  stray_unwritten = rw (← stray)

module _ (n : ℕ) (a : List ℕ) (b : ℕ) (all : length a ≡ 73) (e : is_proper_beginning (take n a) ≡ true) where
  short : n ≤ 72
  short = count-short n a all e

  more_fits : (k : ℕ) → k ≤ 9 → Fits w8 (n + k)
  more_fits k h = record { fits = omega (arith, short) }

  room : n < length a
  room = omega (arith, short)

  room-for_all : n + 1 ≤ length (set a n b)
  room-for_all = omega (arith, length-set a n b, room)

  with_byte_lem : take (n + 1) (set a n b) ≡ take n a ++ (b ∷ [])
  with_byte_lem = rw add-one (take-suc-set a n b room)

  beginning : (asked : ℕ) → asked ≡ checkpoint (take n a) → GrownBeginning (take (n + 1) (set a n b)) asked
  beginning asked told = rw with_byte_lem (one_more (take n a) b e asked told)

  module _ (t : (eqb n 0 && not (eqb b soh)) ≡ false) where
    comes : grown (take (n + 1) (set a n b)) ≡ accept (take n a) b
    unfolding accept behind grown
    comes =
        cond-by (λ (_ : ℕ). grown (take (n + 1) (set a n b)) ≡ accept (take n a) b) (eqb n 0) 0 0
        (λ z. rw (with_byte_lem, eqb-true n 0 z, not-false (eqb b soh) (rw z at t)))
        (λ z. let none = eqb-false n 0 z in
        rw with_byte_lem (sym (accept-behind (take n a) b (omega (arith, length-take n a, room)))))

    module _ (r : Reception) (told : reception_in r (set a n b) ≡ (grown (take (n + 1) (set a n b))).answer) where
      answered : reception_in r (set a n b) ≡ (accept (take n a) b).answer
      answered = told ∙ ap (λ (x : Receipt). x.answer) comes

      left : take (kept_after r (n + 1)) (set a n b) ≡ (accept (take n a) b).held
      left =
          left-taken r (n + 1) (set a n b)
          ∙ rw told (sym (grown-leaves (take (n + 1) (set a n b))))
          ∙ ap (λ (x : Receipt). x.held) comes

    written : set a n b ≡ array_after a n b (accept (take n a) b).answer
    written = rw (← comes) (byte-there a n b (grown (take (n + 1) (set a n b))).answer (grown-changes (take (n + 1) (set a n b))))

pub returns-then-len-b : goal.returns-then-len-b
returns-then-len-b c = record { few = search stray_few; answer = search stray_refused; whole = tt; held = search stray_leaves; array = search stray_unwritten }

pub bounds-bytes-len : goal.bounds-bytes-len
bounds-bytes-len c = search room

pub overflow_add-len : goal.overflow_add-len
overflow_add-len c = search (rules, more_fits)

pub reached-requires : goal.reached-requires
reached-requires c = (search room-for_all, search beginning)

pub returns : goal.returns
returns c = record { few = search short; answer = search answered; whole = search rules; held = search left; array = search written }
