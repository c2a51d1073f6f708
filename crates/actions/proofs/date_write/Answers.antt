-- A date that is accepted may be stored.
use borrow.Author.Rules.{rules}
use Rattle.actions.proofs.Laws.{accepted-storable}
use Rattle.actions.proofs.date_write.Goals as goal

pub date_stores-requires-clause-date_value : goal.date_stores-requires-clause-date_value
date_stores-requires-clause-date_value c = search (rules, accepted-storable)
