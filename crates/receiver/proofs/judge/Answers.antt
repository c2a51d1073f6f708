-- The first n bytes are n, and a law says what they come to on each way.
use mathlib.Core.List.{List}
use mathlib.Core.Path.{◌≡◌, refl}
use Prim.Native.Nat.{ℕ, ◌≤◌, ◌<◌}
use native.Mathlib.Omega.{arith}
use borrow.Author.Rules.{rules}
use borrow.Author.Tests.{lt-ltb, le-ltb, ne_eqb}
use lib.ListN.{length, take}
use lib.Seq.{length-take-le}
use Rattle.wire.specs.Packet.{size}
use Rattle.wire.specs.Judge.{verdict, header_verdict, packet_verdict}
use Rattle.wire.specs.Inner.{Whole}
use Rattle.std.specs.Prelude.{Result, Ok, Err}
use Rattle.wire.specs.declared.refusal.Refusal.{Refusal}
use Rattle.receiver.specs.Receive.{Receipt, waiting, keeps, delivers, judged, grown}
use Rattle.receiver.specs.View.{reception_in, WholeOf}
use Rattle.receiver.specs.Inner.{or_refused, GrownBeginning}
use Rattle.receiver.specs.declared.Reception.{Reception}
use Rattle.receiver.proofs.judge.Goals as goal

-- a verdict that lets an answer pass or refuses it
passed : (a : List ℕ) (v : Result Unit Refusal) (x : Reception) (to : Receipt) → reception_in x a ≡ to.answer
    → reception_in (or_refused v x) a ≡ (judged (verdict v) to).answer
passed a (Ok u) x to e = e
passed a (Err r) x to e = refl

-- what is told of a count
counted : (n : ℕ) (r : Reception) (v : Result Unit Refusal) (x : Reception) → r ≡ or_refused v x → WholeOf x n → WholeOf r n
counted n r (Ok u) x e w = rw e w
counted n r (Err k) x e w = rw e tt

header-counted : (n : ℕ) (r : Reception) (v : Result Unit Refusal) → r ≡ or_refused v Reception.Waiting → WholeOf r n
header-counted n r v e = counted n r v Reception.Waiting e tt

packet-counted : (n : ℕ) (r : Reception) (v : Result Unit Refusal) → r ≡ or_refused v (Reception.Whole n) → WholeOf r n
packet-counted n r v e = counted n r v (Reception.Whole n) e refl

module _ (n : ℕ) (a : List ℕ) (fits : n ≤ length a) where
  so_many : length (take n a) ≡ n
  so_many = length-take-le n a fits

  at-header : n ≡ 7 → (r : Reception) (v : Result Unit Refusal) → verdict v ≡ header_verdict (take n a) → r ≡ or_refused v Reception.Waiting
      → reception_in r a ≡ (grown (take n a)).answer
  unfolding grown
  at-header e r v says unless =
      rw (unless, passed a v Reception.Waiting (keeps (take n a)) refl, says, so_many) (rw e)

  module _ (seven : 7 ≤ n) (more : n ≡ 7 → ⊥) (k : ℕ) (told : k ≡ size (take n a)) where
    in_packet : n < k → waiting ≡ (grown (take n a)).answer
    unfolding grown
    in_packet few = rw (so_many, le-ltb n 7 seven, ne_eqb n 7 more, ← told, lt-ltb n k few)

    module _ (all : k ≤ n) where
      at-end : (r : Reception) (v : Result Unit Refusal) → verdict v ≡ packet_verdict (take n a) → r ≡ or_refused v (Reception.Whole n)
          → reception_in r a ≡ (grown (take n a)).answer
      unfolding grown
      at-end r v says unless =
          rw (
            unless,
            passed a v (Reception.Whole n) (delivers (take n a)) refl,
            says,
            so_many,
            le-ltb n 7 seven,
            ne_eqb n 7 more,
            ← told,
            le-ltb n k all,
          )

      whole : GrownBeginning (take n a) n → Whole (take n a)
      whole h =
          let m = h.most (omega (arith, so_many)) in
          let e = h.least (omega (arith, so_many)) in
          record { least = omega (arith, so_many); sized = omega (arith, so_many) }

pub slice_bounds-held-end : goal.slice_bounds-held-end
slice_bounds-held-end c = search (rules, length-take-le)

pub judge_header-requires : goal.judge_header-requires
judge_header-requires c = search (rules, length-take-le)

pub returns-then-n-eq-HEADER : goal.returns-then-n-eq-HEADER
returns-then-n-eq-HEADER c = record { answer = search at-header; whole = search header-counted }

pub size-requires : goal.size-requires
size-requires c = search (rules, length-take-le)

pub returns-then-count-size : goal.returns-then-count-size
returns-then-count-size c = record { answer = search in_packet; whole = tt }

pub judge_packet-requires : goal.judge_packet-requires
judge_packet-requires c = search whole

pub returns : goal.returns
returns c = record { answer = search at-end; whole = search packet-counted }
