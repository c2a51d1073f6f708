-- The array and the answer say what is held; with a refusal that changes nothing none was held before either.
use mathlib.Core.Bool.{Bool, true, false, cond}
use mathlib.Core.List.{List}
use mathlib.Core.Path.{◌≡◌, refl, sym, ap}
use Prim.Native.Nat.{ℕ, ◌+◌}
use native.Mathlib.Omega.{arith}
use borrow.Author.Rules.{rules}
use borrow.Author.Tests.{eqb-true, eqb-false}
use lib.Dec.{eqb}
use lib.ListN.{length, take, set, length-take}
use Rattle.wire.specs.Refusal.{number_of, changes_nothing}
use Rattle.wire.proofs.Tests.{cond-by}
use Rattle.receiver.specs.Receive.{accept}
use Rattle.receiver.specs.Receive as receive
use Rattle.receiver.specs.View.{held_of, reception_in, with_byte, receiver_after}
use Rattle.receiver.specs.Inner.{kept_after, array_after}
use Rattle.receiver.specs.declared.Reception.{Reception}
use Rattle.receiver.specs.declared.Receiver.{Receiver}
use Rattle.receiver.proofs.Laws.{held-changes}
use Rattle.receiver.proofs.Receiver.accept.Goals as goal

abbrev with : List ℕ → ℕ → Receiver
with a n = record { held = a; len = n }

-- what is left by an answer that the code gave
module _ (s : Receiver) (b : ℕ) (exit : List ℕ) where
  refused-leaves : (t : Bool) → exit ≡ cond t s.held (set s.held s.len b) → (t ≡ true → s.len ≡ 0)
      → with exit 0 ≡ cond t s (with_byte s b 0)
  refused-leaves true w z = rw w (ap (with s.held) (sym (z refl)))
  refused-leaves false w z = rw w

  leaves : (a : Reception) (x : receive.Reception) → reception_in a exit ≡ x → exit ≡ array_after s.held s.len b x
      → ((n : ℕ) → x ≡ receive.refused n → changes_nothing n ≡ true → s.len ≡ 0)
      → with exit (kept_after a (s.len + 1)) ≡ receiver_after s b x
  leaves Reception.Waiting x e w z = rw (← e, rw (← e) at w)
  leaves (Reception.Refused r) x e w z =
      rw (← e) (refused-leaves (changes_nothing (number_of r)) (rw (← e) at w) (z (number_of r) (sym e)))
  leaves (Reception.Whole n) x e w z = rw (← e, rw (← e) at w)

module _ (s : Receiver) (b : ℕ) (a : Reception) (exit : List ℕ) (answers : reception_in a exit ≡ (accept (held_of s) b).answer)
    (k : ℕ) (kept : k ≡ kept_after a (s.len + 1)) where
  received : take (kept_after a (s.len + 1)) exit ≡ (accept (held_of s) b).held
      → record { held = take k exit; answer = reception_in a exit } ≡ accept (held_of s) b
  received holds = rw (kept, holds, answers)

  left : length s.held ≡ 73 → exit ≡ array_after s.held s.len b (accept (held_of s) b).answer
      → with exit k ≡ receiver_after s b (accept (held_of s) b).answer
  left all w = rw kept (leaves s b exit a (accept (held_of s) b).answer answers w stray)
    where
      stray : (n : ℕ) → (accept (held_of s) b).answer ≡ receive.refused n → changes_nothing n ≡ true → s.len ≡ 0
      stray n e t =
          cond-by (λ (_ : ℕ). s.len ≡ 0) (eqb s.len 0) 0 0 (eqb-true s.len 0)
          (λ q. let some = eqb-false s.len 0 q in
          let f = held-changes (held_of s) b n (omega (arith, length-take s.len s.held)) e in
          let z : ◌≡◌ {A = ℕ} 0 1 = cc in absurd (omega arith))

pub returns : goal.returns
returns c = record { receipt = search received; whole = search rules; receiver = search (rules, left) }
