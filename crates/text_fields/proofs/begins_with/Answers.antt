-- A longer name is no beginning of a text, and each turn compares the next byte; a law for each way out.
use mathlib.Core.Bool.{true, false, ◌&&◌, and-false}
use mathlib.Core.List.{List, [], ◌∷◌}
use mathlib.Core.Path.{◌≡◌, refl, sym, ◌∙◌}
use Prim.Native.Nat.{ℕ, ◌+◌, ◌≤◌, ◌<◌}
use native.Mathlib.Numerals.{add-one}
use native.Mathlib.Omega.{arith}
use borrow.Author.Tests.{eq-eqb, ne_eqb}
use lib.Dec.{eqb}
use lib.ListN.{length, get_or, drop, drop_of_length-le}
use lib.Seq.{drop-cons}
use Rattle.messages.specs.Read.{begins_with}
use Rattle.text_fields.proofs.begins_with.Invariants.{Passed}
use Rattle.text_fields.proofs.begins_with.Goals as goal

begins-short : (name t : List ℕ) → length t < length name → begins_with name t ≡ false
unfolding begins_with
begins-short [] t h = let z : ◌≡◌ {A = ℕ} 0 1 = omega arith in cc
begins-short (a ∷ name) [] h = refl
begins-short (a ∷ name) (b ∷ t) h = rw (begins-short name t (omega arith)) (and-false (eqb a b))

begins-step : (name t : List ℕ) (i : ℕ) → i < length name → i < length t
    → begins_with (drop i name) (drop i t) ≡ (eqb (get_or name i 0) (get_or t i 0) && begins_with (drop (i + 1) name) (drop (i + 1) t))
unfolding begins_with
begins-step name t i h k = rw (drop-cons name i 0 h, drop-cons t i 0 k, add-one)

module _ (name text : List ℕ) where
  too_short : length text < length name → false ≡ begins_with name text
  too_short h = sym (begins-short name text h)

  none_passed : length name ≤ length text → Passed name text 0
  none_passed h = record { within = omega arith; room = h; rest = refl }

  module _ (i : ℕ) (p : Passed name text i) where
    module _ (more : i < length name) where
      other_byte : (get_or text i 0 ≡ get_or name i 0 → ⊥) → false ≡ begins_with name text
      other_byte e =
          let r = p.room in
          rw (p.rest, begins-step name text i more (omega arith), ne_eqb _ _ (λ q. e (sym q)))

      same_byte : get_or text i 0 ≡ get_or name i 0 → Passed name text (i + 1)
      same_byte e = record {
        within = omega arith;
        room = p.room;
        rest = p.rest ∙ rw (begins-step name text i more (omega arith), eq-eqb _ _ (sym e));
      }

    all-passed : length name ≤ i → true ≡ begins_with name text
    unfolding begins_with
    all-passed h = rw (p.rest, drop_of_length-le name h)

pub returns-then-text-name-clause-value : goal.returns-then-text-name-clause-value
returns-then-text-name-clause-value c = search too_short

pub loop-i-init : goal.loop-i-init
loop-i-init c = search none_passed

pub returns-then-text-i-clause-value : goal.returns-then-text-i-clause-value
returns-then-text-i-clause-value c = search other_byte

pub loop-i-preserved : goal.loop-i-preserved
loop-i-preserved c = search same_byte

pub returns-clause-value : goal.returns-clause-value
returns-clause-value c = search all-passed
