-- Below what was asked for more is waited for; from there on the bytes are judged.
use mathlib.Core.List.{List}
use mathlib.Core.Path.{◌≡◌, refl}
use Prim.Native.Nat.{ℕ, ◌≤◌, ◌<◌}
use native.Mathlib.Omega.{arith}
use borrow.Author.Rules.{rules}
use borrow.Author.Tests.{lt-ltb, ltb-false, ne_eqb}
use lib.Dec.{ltb}
use lib.ListN.{length, take}
use lib.Seq.{length-take-le}
use Rattle.wire.specs.Packet.{size}
use Rattle.wire.proofs.Tests.{cond-by}
use Rattle.receiver.specs.Receive.{Receipt, waiting, grown}
use Rattle.receiver.specs.Inner.{GrownBeginning}
use Rattle.receiver.proofs.reached.Goals as goal

module _ (n : ℕ) (a : List ℕ) (fits : n ≤ length a) (asked : ℕ) (h : GrownBeginning (take n a) asked) where
  so_many : length (take n a) ≡ n
  so_many = length-take-le n a fits

  waits : n < asked → waiting ≡ (grown (take n a)).answer
  unfolding grown
  waits few =
      let g = take n a in
      cond-by (λ (r : Receipt). waiting ≡ r.answer) (ltb (length g) 7) _ _ (λ _. refl)
      (λ t. let fewer = h.below (omega (arith, so_many)) (ltb-false (length g) 7 t) in
      rw (ne_eqb (length g) 7 (λ z. omega arith), lt-ltb (length g) (size g) fewer.1))

  module _ (enough : asked ≤ n) where
    header-there : 7 ≤ n
    header-there = omega (arith, h.header)

    all_there : GrownBeginning (take n a) n
    all_there = record {
      least = h.least;
      most = h.most;
      below = λ less _. absurd (omega (arith, so_many));
      header = header-there;
    }

pub returns-then-n-asked : goal.returns-then-n-asked
returns-then-n-asked c = record { answer = search waits; whole = tt }

pub judge-requires : goal.judge-requires
judge-requires c = (search header-there, search rules, search all_there)
