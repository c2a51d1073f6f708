-- The loop goes over the first stores, as many as are counted.
use Rattle.std.proofs.Common.{◌≡◌, ℕ, ◌<◌, zero, suc, List, [], ◌∷◌, ◌++◌, length, get_or, set, take, map, Bor, arith, ◌∙◌}
use Rattle.std.proofs.lemmas.List.{map-append}
use Rattle.std.proofs.lemmas.Iterator.{YieldsList, YieldsList-from_slice, YieldsList-from_take}
use Rattle.std.proofs.lemmas.Iterator.Consumers.{YieldsList-at, YieldsList-turn, YieldsList-end}
use Rattle.std.proofs.iter.Yields.{fronts}
use Rattle.std.specs.Iterator.Adapters.{take_source, take_count, take_steps}
use Rattle.std.specs.Slice.Iter.{iter_rest}
use Rattle.std.specs.declared.iter.Take.{Take}
use Rattle.std.proofs.Common.{Iter}
use Rattle.plan.specs.Stores.{applied}
use Rattle.plan.specs.Inner.{Within}
use Rattle.plan.specs.Plans.{entry_of}
use Rattle.plan.specs.declared.Store.{Store}
use Rattle.plan.proofs.Laws.{applied-append}
use Rattle.plan.proofs.commit.Goals as goal

counted : {s t : Take (Iter Store)} {i : Iter Store} {n : ℕ} {all : List Store} → iter_rest i ≡ all → take_source s ≡ i → take_count s ≡ n → t ≡ s
    → YieldsList (take_steps fronts) (λ y. y.now) t (take n all)
counted {n = n} {all = all} rest source count given = YieldsList-at given (YieldsList-from_take n (YieldsList-at source (YieldsList-from_slice all rest)) count)

within-place : (n k : ℕ) (all : List Store) (x : Store) → Within n (map entry_of all) → (k < length all) × (x ≡ get_or all k x) → x.place < n
within-place n k [] x w h = absurd (omega arith)
within-place n zero (y ∷ ys) x w h = rw h.1 w.0
within-place n (suc k) (y ∷ ys) x w h = within-place n k ys x w.1 (omega arith, h.1)

one_more : (xs : List (Bor Store)) (x : Bor Store) (s t : List ℕ) → t ≡ applied (map entry_of (map (λ b. b.now) xs)) s
    → set t x.now.place x.now.value ≡ applied (map entry_of (map (λ b. b.now) (xs ++ (x ∷ [])))) s
one_more xs x s t e = rw (map-append, map-append, applied-append, ← e)

pub bounds-store-next : goal.bounds-store-next
bounds-store-next c =
    let road = counted c.iter.ensures.rest c.take-next-items.ensures.source c.take-next-items.ensures.count c.into_iter-next-iterator.ensures.into_iter_gives in
    let t = YieldsList-turn road c.loop-next.yielded _ c.loop-next.yielded_by _ _ c.in-Some.next c.in-Some.is c.next.ensures.steps in
    within-place (length c.loop-next.store) _ _ c.in-Some.next.now (rw c.loop-next.auto.store c.requires.within) t

pub loop-next-preserved : goal.loop-next-preserved
loop-next-preserved c = one_more c.loop-next.yielded c.in-Some.next c.args.store.now c.loop-next.store c.loop-next.invariant

pub returns : goal.returns
returns c =
    let road = counted c.iter.ensures.rest c.take-next-items.ensures.source c.take-next-items.ensures.count c.into_iter-next-iterator.ensures.into_iter_gives in
    let t = YieldsList-end road c.loop-next.yielded _ c.loop-next.yielded_by _ _ c.in-None.is c.next.ensures.steps in
    c.loop-next.invariant ∙ rw t.0
