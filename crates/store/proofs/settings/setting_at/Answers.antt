-- The rows before place i are not the one of the page and the code, so what is found is found in the rest.
use mathlib.Core.Bool.{Bool, true, false, cond}
use mathlib.Core.List.{List}
use mathlib.Core.Option.{none, some}
use mathlib.Core.Path.{◌≡◌, refl, sym, ap, ◌∙◌}
use Prim.Native.Nat.{ℕ, ◌+◌, ◌≤◌, ◌<◌}
use native.Mathlib.Numerals.{add-one}
use lib.ListN.{length, get_or, drop, drop_of_length-le}
use lib.Seq.{drop-cons}
use Rattle.store.specs.declared.settings.Row.{Row}
use Rattle.store.specs.Settings.{settings, is_at, row_in, setting_at}
use Rattle.store.proofs.settings.setting_at.Goals as goal

module _ (page code : ℕ) where
  module _ (rows : List Row) (i : ℕ) (d : Row) (all : rows ≡ settings) (inside : i < length settings)
      (inv : setting_at page code ≡ row_in page code (drop i settings)) (b : Bool) (test : b ≡ is_at page code (get_or rows i d)) where
    turn : setting_at page code ≡ cond b (some (get_or rows i d)) (row_in page code (drop (i + 1) settings))
    turn = inv ∙ rw (add-one i, test, all, drop-cons settings i d inside)

    found_here : b ≡ true → some (get_or rows i d) ≡ setting_at page code
    found_here e = sym (turn ∙ rw e)

    found-later : b ≡ false → setting_at page code ≡ row_in page code (drop (i + 1) settings)
    found-later e = turn ∙ rw e

  found_nowhere : (i : ℕ) → setting_at page code ≡ row_in page code (drop i settings) → length settings ≤ i → none ≡ setting_at page code
  found_nowhere i inv h = sym (inv ∙ ap (row_in page code) (drop_of_length-le settings h))

pub loop-row-init : goal.loop-row-init
unfolding setting_at
loop-row-init c = refl

pub returns-then-is_at : goal.returns-then-is_at
returns-then-is_at c = search found_here

pub loop-row-preserved : goal.loop-row-preserved
loop-row-preserved c = search found-later

pub returns : goal.returns
returns c = search found_nowhere
