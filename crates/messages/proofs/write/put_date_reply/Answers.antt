-- The callee of each case writes the text of that case.
use Rattle.messages.specs.Text.{reply_text}
use Rattle.messages.proofs.write.put_date_reply.Goals as goal

pub returns-in-Read : goal.returns-in-Read
unfolding reply_text
returns-in-Read c = rw c.in-Read.is c.put_named_date.ensures

pub returns-in-Written : goal.returns-in-Written
unfolding reply_text
returns-in-Written c = rw c.in-Written.is c.put_date_write_reply.ensures
