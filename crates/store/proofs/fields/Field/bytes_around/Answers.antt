-- The bytes that have a bit of the field are copied, and the field is put there.
use borrow.Author.Rules.{rules}
use Rattle.store.proofs.FieldLaws.{around_stored}
use Rattle.store.proofs.fields.Field.bytes_around.Goals as goal

pub returns : goal.returns
returns c = search (rules, around_stored)
