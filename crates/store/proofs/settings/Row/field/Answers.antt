-- A listed row's field lies in the store.
use borrow.Author.Rules.{rules}
use Rattle.store.proofs.SettingLaws.{row_in-store}
use Rattle.store.proofs.settings.Row.field.Goals as goal

pub invariant_of-result : goal.invariant_of-result
invariant_of-result c = search (rules, row_in-store)
