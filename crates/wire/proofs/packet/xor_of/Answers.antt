-- What is left to join onto x gives the whole's exclusive or.
use mathlib.Core.List.{List}
use mathlib.Core.Path.{◌≡◌, refl, sym, ◌∙◌}
use Prim.Native.Nat.{ℕ, ◌+◌, ◌≤◌, ◌<◌}
use native.Mathlib.Numerals.{add-one}
use native.Mathlib.Omega.{arith}
use lib.Bits.{bit_xor}
use lib.ListN.{length, get_or, drop_of_length-le}
use lib.Seq.{drop-cons}
use Rattle.wire.specs.Packet.{xor_of, xor_from}
use Rattle.wire.proofs.packet.xor_of.Invariants.{Joined}
use Rattle.wire.proofs.packet.xor_of.Goals as goal

module _ (s : List ℕ) where
  none-joined : Joined s 0 0
  none-joined = record { within = omega arith; rest = refl }

  module _ (x i : ℕ) (j : Joined s x i) where
    one_more : i < length s → Joined s (bit_xor x (get_or s i 0)) (i + 1)
    unfolding xor_from
    one_more h = record { within = omega arith; rest = j.rest ∙ rw (add-one, drop-cons s i 0 h) }

    all-joined : length s ≤ i → x ≡ xor_of s
    unfolding xor_from
    all-joined h = sym (j.rest ∙ rw (drop_of_length-le s h))

pub loop-b-init : goal.loop-b-init
loop-b-init c = search none-joined

pub loop-b-preserved : goal.loop-b-preserved
loop-b-preserved c = search one_more

pub returns : goal.returns
returns c = search all-joined
