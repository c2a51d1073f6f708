-- A packet that is not refused with 30 to 34 and has its message is read as its text is.
use Rattle.std.proofs.lemmas.Result.{err_from_is_err_and}
use Rattle.station.specs.Read.{reply_in_message, read_packet}
use Rattle.station.proofs.ReadLaws.{text_of_whole}
use Rattle.station.proofs.read.read_reply.Goals as goal

pub returns-in_err-reply-clause-reading : goal.returns-in_err-reply-clause-reading
unfolding read_packet reply_in_message
returns-in_err-reply-clause-reading c =
    let e = err_from_is_err_and c.from_residual-in_err-reply.result c.from_residual-in_err-reply.ensures.1 in
    rw (
      e.1,
      e.2,
      ← c.in_ok-judge_reply.ensures.verdict,
      ← c.is_message.ensures,
      c.if-not-is_message.false,
      ← text_of_whole _ c.in_ok-judge_reply.ensures.whole,
      ← c.in_err-reply.ensures.reply,
    )

pub returns-clause-reading : goal.returns-clause-reading
unfolding read_packet reply_in_message
returns-clause-reading c =
    rw (
      ← c.in_ok-judge_reply.ensures.verdict,
      ← c.is_message.ensures,
      c.if-not-is_message.false,
      ← text_of_whole _ c.in_ok-judge_reply.ensures.whole,
      ← c.in_ok-reply.ensures.reply,
    )
