-- The fields of the rows before place i are those that were tested.
use borrow.Author.Rules.{rules}
use mathlib.Core.Bool.{Bool, ◌&&◌, and-true, and_assoc}
use mathlib.Core.List.{List, map}
use mathlib.Core.Path.{◌≡◌, refl, sym, ◌∙◌}
use Prim.Native.Nat.{ℕ, suc, ◌+◌, ◌≤◌, ◌<◌}
use native.Mathlib.Numerals.{add-one}
use lib.ListN.{length, get_or, drop, drop_of_length-le}
use lib.Seq.{drop-cons}
use Rattle.store.specs.Fields.{all_fit}
use Rattle.store.specs.Settings.{settings, Listed, field_of}
use Rattle.store.specs.Layout.{setting_fields}
use Rattle.store.specs.Inner.{row_fits}
use Rattle.store.specs.declared.settings.Row.{Row}
use Rattle.store.proofs.Tables.{member_at}
use Rattle.store.proofs.settings.in_range.Invariants.{Tested}
use Rattle.store.proofs.settings.in_range.Goals as goal

module _ (m : List ℕ) (all : Bool) (i : ℕ) (inv : Tested m all i) where
  module _ (rows : List Row) (d : Row) (whole : rows ≡ settings) (inside : i < length settings) where
    listed : Listed (get_or rows i d)
    listed = rw whole (member_at settings i d inside)

    one_more : (b : Bool) → b ≡ row_fits m (get_or rows i d) → Tested m (all && b) (i + 1)
    unfolding Tested row_fits
    one_more b test =
        inv
        ∙ rw (drop-cons settings i d inside, add-one i, test, whole)
        (sym (and_assoc all _ (all_fit m (map field_of (drop (suc i) settings)))))

  all_tested : length settings ≤ i → all ≡ all_fit m setting_fields
  unfolding Tested
  all_tested h = sym (inv ∙ rw (drop_of_length-le settings h) (and-true all))

pub loop-row-init : goal.loop-row-init
unfolding Tested
loop-row-init c = refl

pub is_in_range-all-requires-clause-listed : goal.is_in_range-all-requires-clause-listed
is_in_range-all-requires-clause-listed c = search (rules, listed)

pub loop-row-preserved : goal.loop-row-preserved
loop-row-preserved c = one_more _ _ _ c.loop-row.invariant _ _ c.rows-rows.ensures c.loop-row-test.true _ c.is_in_range-all.ensures

pub returns : goal.returns
returns c = search all_tested
