-- Each test on the way is a test of the definition; a law for each return.
use mathlib.Core.Bool.{Bool, true, false, not}
use mathlib.Core.List.{List}
use mathlib.Core.Path.{◌≡◌}
use Prim.Native.Nat.{ℕ}
use lib.Dec.{eqb}
use lib.ListN.{get_or}
use Rattle.wire.specs.Packet.{zero_byte}
use Rattle.wire.specs.Judge.{good, refused, is_request_type, is_length, header_verdict}
use Rattle.wire.proofs.packet.judge_header.Goals as goal

module _ (h : List ℕ) (t l : Bool) (type : t ≡ is_request_type (get_or h 4 0)) (limits : l ≡ is_length h) where
  bad_reserved : not (eqb (get_or h 1 0) zero_byte) ≡ true → refused 2 ≡ header_verdict h
  unfolding header_verdict
  bad_reserved e = rw e

  module _ (reserved : not (eqb (get_or h 1 0) zero_byte) ≡ false) where
    bad_source : not (eqb (get_or h 3 0) zero_byte) ≡ true → refused 2 ≡ header_verdict h
    unfolding header_verdict
    bad_source e = rw (reserved, e)

    module _ (source : not (eqb (get_or h 3 0) zero_byte) ≡ false) where
      bad_type : not t ≡ true → refused 3 ≡ header_verdict h
      unfolding header_verdict
      bad_type e = rw (reserved, source, ← type, e)

      module _ (typed : not t ≡ false) where
        bad_length : not l ≡ true → refused 4 ≡ header_verdict h
        unfolding header_verdict
        bad_length e = rw (reserved, source, ← type, typed, ← limits, e)

        no_fault : not l ≡ false → good ≡ header_verdict h
        unfolding header_verdict
        no_fault e = rw (reserved, source, ← type, typed, ← limits, e)

pub returns-then-not-reserved : goal.returns-then-not-reserved
returns-then-not-reserved c = search bad_reserved

pub returns-then-not-from_station : goal.returns-then-not-from_station
returns-then-not-from_station c = search bad_source

pub returns-then-not-typed : goal.returns-then-not-typed
returns-then-not-typed c = search bad_type

pub returns-then-not-sized : goal.returns-then-not-sized
returns-then-not-sized c = search bad_length

pub returns : goal.returns
returns c = search no_fault
