-- A digit's value is below 16.
use mathlib.Core.Bool.{◌&&◌}
use mathlib.Core.Option.{Option, none, some}
use Prim.Native.Nat.{ℕ, ◌<◌}
use native.Mathlib.Omega.{arith}
use lib.Dec.{leb}
use Rattle.wire.specs.Digits.{value_of}
use Rattle.wire.proofs.Tests.{cond-by, range-told}

-- a number that was found is below k
abbrev pub Below : ℕ → Option ℕ → Type 0
Below k none = Unit {0}
Below k (some n) = n < k

pub digit_within : (b : ℕ) → Below 16 (value_of b)
unfolding value_of
digit_within b =
    cond-by (Below 16) (leb 0x30 b && leb b 0x39) _ _ (λ t. omega (arith, (range-told 0x30 b 0x39 t).1))
    (λ _. cond-by (Below 16) (leb 0x41 b && leb b 0x46) _ _ (λ t. omega (arith, (range-told 0x41 b 0x46 t).1))
    (λ _. cond-by (Below 16) (leb 0x61 b && leb b 0x66) _ _ (λ t. omega (arith, (range-told 0x61 b 0x66 t).1)) (λ _. tt)))
