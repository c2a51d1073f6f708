-- What inner functions give. No contract of an entry point cites it.
use Rattle.std.specs.Prelude.{Result, Ok, Err, ℕ}
use Rattle.wire.specs.Refusal.{number_of}
use Rattle.wire.specs.declared.refusal.Refusal.{Refusal}
use Rattle.messages.specs.View.{reply_of}
use Rattle.messages.specs.declared.message.Reply.{Reply}
use Rattle.station.specs.Read.{PacketReading, reply, refused}

-- a reply with its sender's ID
abbrev pub sent_reading : Result (ℕ × Reply) Refusal → PacketReading
sent_reading (Ok r) = reply r.0 (reply_of r.1)
sent_reading (Err e) = refused (number_of e)
