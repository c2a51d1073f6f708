-- A field of at most eight bits is a byte.
use borrow.Author.Rules.{rules}
use Rattle.store.proofs.FieldLaws.{get-byte}
use Rattle.schedule.proofs.programs.field_at.Goals as goal

pub overflow_cast-result : goal.overflow_cast-result
overflow_cast-result c = search (rules, get-byte)
