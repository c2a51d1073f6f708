-- After a turn the stores so far are applied.
use Rattle.std.proofs.Common.{◌≡◌, map}
use Rattle.plan.specs.Stores.{applied}
use Rattle.plan.specs.Plans.{entry_of}
use Rattle.plan.proofs.commit.Given as goal

abbrev pub invariant-loop-next : goal.invariant-loop-next
invariant-loop-next l = l.store ≡ applied (map entry_of (map (λ b. b.now) l.yielded)) l.initial.store
