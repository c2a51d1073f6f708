-- Of an array of 73 bytes the first n are looked at; more than 72 are no proper beginning.
use mathlib.Core.Bool.{Bool, true, false}
use mathlib.Core.List.{List}
use mathlib.Core.Path.{◌≡◌, refl, sym, ◌∙◌}
use Prim.Native.Nat.{ℕ, ◌≤◌, ◌<◌}
use native.Mathlib.Omega.{arith}
use borrow.Author.Rules.{rules}
use borrow.Author.Tests.{lt-ltb, le-ltb, ne_eqb}
use lib.ListN.{length, take, get_or, length-take}
use lib.Seq.{get_or-take, length-take-le}
use Rattle.wire.specs.Packet.{soh}
use Rattle.receiver.specs.Receive.{is_proper_beginning}
use Rattle.receiver.specs.Inner.{checkpoint, asked, asked_behind}
use Rattle.receiver.proofs.Laws.{proper-told, short_proper, count-short, asked-proper, asked-improper}
use Rattle.receiver.proofs.asked_for.Goals as goal

otherwise : (t : Bool) → (t ≡ true → ⊥) → t ≡ false
otherwise true f = absurd (f refl)
otherwise false f = refl

nothing : (n : ℕ) (a : List ℕ) → n ≡ 0 → 7 ≡ asked (take n a)
unfolding asked is_proper_beginning checkpoint
nothing n a e = rw e

module _ (n : ℕ) (a : List ℕ) (all : length a ≡ 73) (some : n ≡ 0 → ⊥) where
  improper : (is_proper_beginning (take n a) ≡ true → ⊥) → 0 ≡ asked (take n a)
  improper f = sym (asked-improper (take n a) (otherwise (is_proper_beginning (take n a)) f))

  first : get_or (take n a) 0 0 ≡ get_or a 0 0
  first = get_or-take n a 0 0 (omega arith)

  not_begun : (get_or a 0 0 ≡ soh → ⊥) → 0 ≡ asked (take n a)
  not_begun f = improper (λ e. f (sym first ∙ (proper-told (take n a) e).begun (omega (arith, length-take n a))))

  too_many : 72 < n → 0 ≡ asked (take n a)
  too_many f = improper (λ e. omega (arith, count-short n a all e))

  module _ (begun : get_or a 0 0 ≡ soh) where
    in_header : n < 7 → 7 ≡ asked (take n a)
    unfolding checkpoint
    in_header few =
        let less : length (take n a) < 7 = omega (arith, length-take n a) in
        rw (asked-proper (take n a) (short_proper (take n a) (first ∙ begun) less), lt-ltb (length (take n a)) 7 less)

    behind-header : 7 ≤ n → n ≤ 72 → (r : ℕ) → r ≡ asked_behind (take n a) → r ≡ asked (take n a)
    unfolding asked asked_behind is_proper_beginning
    behind-header seven few r e = e ∙ rw (length-take-le n a (omega arith), ne_eqb n 0 some, first, begun, le-ltb n 7 seven)

pub returns-then-len-eq0 : goal.returns-then-len-eq0
returns-then-len-eq0 c = search nothing

pub returns-then-bytes-ne-SOH : goal.returns-then-bytes-ne-SOH
returns-then-bytes-ne-SOH c = search (rules, not_begun)

pub returns-then-len-lt-HEADER : goal.returns-then-len-lt-HEADER
returns-then-len-lt-HEADER c = search (rules, in_header)

pub returns-then-len-gt-MOST_HELD : goal.returns-then-len-gt-MOST_HELD
returns-then-len-gt-MOST_HELD c = search (rules, too_many)

pub returns : goal.returns
returns c = search (rules, behind-header)
