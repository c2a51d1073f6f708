-- After i turns the first i bytes have their stores.
use Rattle.std.proofs.Common.{◌≡◌, ◌+◌, ◌++◌, length, map, take}
use Rattle.plan.specs.Stores.{range_of}
use Rattle.plan.specs.Plans.{entry_of, stores_of}
use Rattle.plan.proofs.Plan.with_range.Given as goal

abbrev pub invariant-loop-i : goal.invariant-loop-i
invariant-loop-i l =
    (length l.self.stores ≡ 40)
    × (map entry_of (take (l.count + l.i) l.self.stores) ≡ stores_of l.initial.self ++ range_of l.from (take l.i l.bytes))
