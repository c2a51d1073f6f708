-- What is read of a text (docs/RULES.md, 'Station', RD1), and what the code's answer means, with the rules' number for a refusal.
use Rattle.std.specs.Prelude.{Result, Ok, Err, ℕ}
use Rattle.std.proofs.Math.Option.{Option, none, some}
use Rattle.wire.specs.Refusal.{number_of}
use Rattle.wire.specs.declared.refusal.Refusal.{Refusal}
use Rattle.messages.specs.Message as message
use Rattle.messages.specs.View.{reply_of, status_number}
use Rattle.messages.specs.declared.message.Parameter.{Parameter}
use Rattle.messages.specs.declared.message.Reply.{Reply}
use Rattle.messages.specs.declared.message.Status.{Status}

-- a reply, or refused with a number
pub data TextReading : Type 0 where
  reply : message.Reply → TextReading
  refused : ℕ → TextReading

-- a text that is none of the replies of its type is refused with 35
abbrev pub or_refused : Option message.Reply → TextReading
or_refused (some r) = reply r
or_refused none = refused 35

-- ---- what the code's answer means

abbrev pub reading_as : {A : Type 0} → (A → message.Reply) → Result A Refusal → TextReading
reading_as says (Ok a) = reply (says a)
reading_as says (Err e) = refused (number_of e)

abbrev pub reading : Result Reply Refusal → TextReading
reading r = reading_as reply_of r

-- the reply that a result or status and a parameter make
abbrev pub said_by : (ℕ → ℕ → ℕ → ℕ → ℕ → ℕ → message.Reply) → Status × Parameter → message.Reply
said_by says p = says (status_number p.0) p.1.page p.1.code p.1.operation p.1.largest p.1.value
