-- The first n bytes are n; a good header has told a size of 13 to 73.
use mir.Syntax.{w8}
use mir.Val.{Fits}
use mathlib.Core.List.{List}
use mathlib.Core.Path.{◌≡◌}
use Prim.Native.Nat.{ℕ, ◌≤◌, ◌<◌}
use native.Mathlib.Omega.{arith}
use borrow.Author.Rules.{rules}
use borrow.Author.Tests.{lt-ltb, le-ltb}
use lib.ListN.{length}
use lib.Seq.{length-take-le}
use Rattle.wire.specs.Packet.{size}
use Rattle.wire.specs.Judge.{verdict, good, header_verdict}
use Rattle.std.specs.Prelude.{Result, Ok, Err}
use Rattle.wire.specs.declared.refusal.Refusal.{Refusal}
use Rattle.wire.proofs.PacketLaws.{header-size}
use Rattle.receiver.specs.Inner.{checkpoint, asked_behind}
use Rattle.receiver.proofs.asked_behind_header.Goals as goal

module _ (h : List ℕ) (v : Result Unit Refusal) (told : verdict v ≡ header_verdict h) where
  bad_header : (r : Refusal) → v ≡ Err r → 0 ≡ asked_behind h
  unfolding asked_behind
  bad_header r e = rw (← told, e)

  module _ (u : Unit) (e : v ≡ Ok u) where
    is_good_lem : header_verdict h ≡ good
    is_good_lem = rw (← told, e)

    size_fits : (k : ℕ) → k ≡ size h → Fits w8 k
    size_fits k counts = record { fits = omega (arith, (header-size h is_good_lem).1) }

    module _ (n : ℕ) (l : length h ≡ n) (seven : 7 ≤ n) where
      not_sized : n < 12 → 12 ≡ asked_behind h
      unfolding asked_behind checkpoint
      not_sized few =
          rw (is_good_lem, l, lt-ltb n (size h) (omega (arith, (header-size h is_good_lem).0)), le-ltb n 7 seven, lt-ltb n 12 few)

      module _ (twelve : 12 ≤ n) (k : ℕ) (counts : k ≡ size h) where
        sized : n < k → k ≡ asked_behind h
        unfolding asked_behind checkpoint
        sized few = rw (is_good_lem, l, ← counts, lt-ltb n k few, le-ltb n 7 seven, le-ltb n 12 twelve)

        all : k ≤ n → 0 ≡ asked_behind h
        unfolding asked_behind
        all m = rw (is_good_lem, l, ← counts, le-ltb n k m)

pub slice_bounds-held-end : goal.slice_bounds-held-end
slice_bounds-held-end c = search (rules, length-take-le)

pub judge_header-requires : goal.judge_header-requires
judge_header-requires c = search (rules, length-take-le)

pub returns-in_default : goal.returns-in_default
returns-in_default c = search bad_header

pub returns-then-len-lt-SIZED : goal.returns-then-len-lt-SIZED
returns-then-len-lt-SIZED c = search (not_sized, length-take-le)

pub size-size-requires : goal.size-size-requires
size-size-requires c = search (rules, length-take-le)

pub overflow_cast-result : goal.overflow_cast-result
overflow_cast-result c = search size_fits

pub returns-then-n-size : goal.returns-then-n-size
returns-then-n-size c = search (sized, length-take-le)

pub returns : goal.returns
returns c = search (all, length-take-le)
