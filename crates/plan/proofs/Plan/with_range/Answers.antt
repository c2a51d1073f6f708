-- One more byte has its store.
use Rattle.std.proofs.Common.{◌≡◌, ℕ, ◌+◌, ◌<◌, List, ◌++◌, length, get_or, set, take, map, add_assoc, append_assoc, rules}
use Rattle.std.proofs.lemmas.List.{map-append, take_more_set}
use Rattle.plan.specs.Stores.{Entry, range_of}
use Rattle.plan.specs.Plans.{entry_of}
use Rattle.plan.specs.declared.Store.{Store}
use Rattle.plan.proofs.Laws.{range_more}
use Rattle.plan.proofs.Plan.with_range.Goals as goal

one_more : (count from i : ℕ) (stores : List Store) (bytes : List ℕ) (before : List Entry) → count + i < length stores → i < length bytes
    → map entry_of (take (count + i) stores) ≡ before ++ range_of from (take i bytes)
    → map entry_of (take (count + (i + 1)) (set stores (count + i) record { place = from + i; value = get_or bytes i 0 }))
    ≡ before ++ range_of from (take (i + 1) bytes)
one_more count from i stores bytes before room more e =
    rw (← add_assoc count i 1, take_more_set stores (count + i), map-append, e, range_more from i bytes, append_assoc)

pub loop-i-preserved : goal.loop-i-preserved
loop-i-preserved c = search (rules, one_more)
