-- What the code's values mean (docs/RULES.md, 'Receiver'), and the value that a byte or a gap leaves. The held bytes are the first of the array,
-- as many as the count says; the rest is not held.
use Rattle.std.specs.Prelude.{cond, List, ◌≡◌, ℕ, ◌+◌, take, set, replicate}
use Rattle.wire.specs.Packet.{most_packet}
use Rattle.wire.specs.Refusal.{number_of, changes_nothing}
use Rattle.receiver.specs.Receive as receive
use Rattle.receiver.specs.declared.Reception.{Reception}
use Rattle.receiver.specs.declared.Receiver.{Receiver}
use Rattle.receiver.specs.declared.Received.{Received}

abbrev pub held_of : Receiver → List ℕ
held_of r = take r.len r.held

-- a whole packet is the first bytes of the array
abbrev pub reception_in : Reception → List ℕ → receive.Reception
reception_in Reception.Waiting bytes = receive.waiting
reception_in (Reception.Refused r) bytes = receive.refused (number_of r)
reception_in (Reception.Whole n) bytes = receive.whole (take n bytes)

-- the count of a whole packet
abbrev pub WholeOf : Reception → ℕ → Type 0
WholeOf Reception.Waiting n = Unit {0}
WholeOf (Reception.Refused r) n = Unit {0}
WholeOf (Reception.Whole k) n = k ≡ n

abbrev pub receipt : Received → receive.Receipt
receipt r = record { held = held_of r.receiver; answer = reception_in r.answer r.receiver.held }

-- ---- values

-- nothing held, and nothing behind it
abbrev pub empty_receiver : Receiver
empty_receiver = record { held = replicate most_packet 0; len = 0 }

-- nothing held any more: the array is as it was
abbrev pub emptied : Receiver → Receiver
emptied r = record { held = r.held; len = 0 }

-- the byte in the place behind the held ones, and n bytes held
abbrev pub with_byte : Receiver → ℕ → ℕ → Receiver
with_byte r b n = record { held = set r.held r.len b; len = n }

-- what a byte leaves, by its answer: with refusals 1 and 12 the receiver is as it was
abbrev pub receiver_after : Receiver → ℕ → receive.Reception → Receiver
receiver_after r b receive.waiting = with_byte r b (r.len + 1)
receiver_after r b (receive.refused n) = cond (changes_nothing n) r (with_byte r b 0)
receiver_after r b (receive.whole p) = with_byte r b 0
