-- The packet holds the text that was written.
use Rattle.messages.proofs.SendLaws.{text-first}
use Rattle.packets.specs.Packets.{reply_with}
use Rattle.packets.proofs.send.Goals as goal

pub returns : goal.returns
unfolding reply_with
returns c =
    let writes = c.reply_text-written.ensures.text in
    rw (← text-first _ _ _ _ _ writes, ← writes.kind) c.put_packet.ensures
