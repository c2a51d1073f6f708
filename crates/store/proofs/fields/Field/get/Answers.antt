-- A field holds less than its width has room for.
use Rattle.bitfield.proofs.Laws.{get-lt}
use Rattle.store.proofs.fields.Field.get.Goals as goal

pub returns-clause-bound : goal.returns-clause-bound
returns-clause-bound c = rw c.get.ensures (get-lt _ _ c.args.self.width)
