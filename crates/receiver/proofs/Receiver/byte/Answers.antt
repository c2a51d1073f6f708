-- Nothing is asked for exactly where the held bytes are no proper beginning, since a proper one asks for seven bytes or more.
use mathlib.Core.Bool.{true, false}
use mathlib.Core.List.{List}
use mathlib.Core.Path.{◌≡◌, sym, ap, ◌∙◌}
use Prim.Native.Nat.{ℕ}
use native.Mathlib.Omega.{arith}
use borrow.Author.Rules.{rules}
use Rattle.wire.specs.Refusal.{changes_nothing}
use Rattle.wire.proofs.Tests.{cond-by}
use Rattle.receiver.specs.Receive.{Receipt, refused, accept, is_proper_beginning, on_byte}
use Rattle.receiver.specs.View.{held_of, receiver_after}
use Rattle.receiver.specs.Inner.{checkpoint, asked}
use Rattle.receiver.specs.declared.Receiver.{Receiver}
use Rattle.receiver.proofs.Laws.{asked-proper, asked-improper, checkpoint-least, byte-accepted}
use Rattle.receiver.proofs.Receiver.byte.Goals as goal

module _ (h : List ℕ) (k : ℕ) (told : k ≡ asked h) where
  not_proper : k ≡ 0 → is_proper_beginning h ≡ false
  not_proper z =
      cond-by (λ (_ : ℕ). is_proper_beginning h ≡ false) (is_proper_beginning h) 0 0
      (λ e. absurd (omega (arith, asked-proper h e, checkpoint-least h e))) (λ e. e)

  module _ (some : k ≡ 0 → ⊥) where
    proper : is_proper_beginning h ≡ true
    proper =
        cond-by (λ (_ : ℕ). is_proper_beginning h ≡ true) (is_proper_beginning h) 0 0
        (λ e. e) (λ e. absurd (some (told ∙ asked-improper h e)))

    asks : k ≡ checkpoint h
    asks = told ∙ asked-proper h proper

module _ (s : Receiver) (b k : ℕ) (told : k ≡ asked (held_of s)) where
  module _ (z : k ≡ 0) where
    unsound : record { held = held_of s; answer = refused 12 } ≡ on_byte (held_of s) b
    unfolding on_byte
    unsound = rw (not_proper (held_of s) k told z)

    unsound_left : s ≡ receiver_after s b (on_byte (held_of s) b).answer
    unfolding changes_nothing
    unsound_left = rw (← unsound)

  module _ (some : k ≡ 0 → ⊥) where
    accepted : accept (held_of s) b ≡ on_byte (held_of s) b
    accepted = sym (byte-accepted (held_of s) b (proper (held_of s) k told some))

    answered : (r : Receipt) → r ≡ accept (held_of s) b → r ≡ on_byte (held_of s) b
    answered r e = e ∙ accepted

    left : (r : Receiver) → r ≡ receiver_after s b (accept (held_of s) b).answer → r ≡ receiver_after s b (on_byte (held_of s) b).answer
    left r e = e ∙ ap (λ (x : Receipt). receiver_after s b x.answer) accepted

pub returns-then-asked-eq0 : goal.returns-then-asked-eq0
returns-then-asked-eq0 c = record { receipt = search unsound; whole = tt; receiver = search unsound_left }

pub accept-requires : goal.accept-requires
accept-requires c = record { proper = search proper; asked = search asks }

pub returns : goal.returns
returns c = record { receipt = search answered; whole = search rules; receiver = search left }
