-- Each test on the way is a test of the definition; a law for each return.
use mathlib.Core.Bool.{Bool, true, false, not}
use mathlib.Core.List.{List}
use mathlib.Core.Path.{◌≡◌}
use Prim.Native.Nat.{ℕ}
use Rattle.wire.specs.Judge.{good, refused, ends_in_return, has_check_code, is_message, packet_verdict}
use Rattle.wire.proofs.packet.judge_packet.Goals as goal

module _ (p : List ℕ) (r k m : Bool) (return : r ≡ ends_in_return p) (code : k ≡ has_check_code p) (message : m ≡ is_message p) where
  no_return : not r ≡ true → refused 5 ≡ packet_verdict p
  unfolding packet_verdict
  no_return e = rw (← return, e)

  module _ (returned : not r ≡ false) where
    bad_code : not k ≡ true → refused 6 ≡ packet_verdict p
    unfolding packet_verdict
    bad_code e = rw (← return, returned, ← code, e)

    module _ (checked : not k ≡ false) where
      no_message : not m ≡ true → refused 7 ≡ packet_verdict p
      unfolding packet_verdict
      no_message e = rw (← return, returned, ← code, checked, ← message, e)

      no_fault : not m ≡ false → good ≡ packet_verdict p
      unfolding packet_verdict
      no_fault e = rw (← return, returned, ← code, checked, ← message, e)

pub returns-then-not-returned : goal.returns-then-not-returned
returns-then-not-returned c = search no_return

pub returns-then-not-checked : goal.returns-then-not-checked
returns-then-not-checked c = search bad_code

pub returns-then-not-message : goal.returns-then-not-message
returns-then-not-message c = search no_message

pub returns : goal.returns
returns c = search no_fault
