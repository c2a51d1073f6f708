-- What inner functions ask and give. No contract of an entry point cites it.
use Rattle.std.specs.Prelude.{Result, Ok, Err, cond, ◌&&◌, List, ℕ, ◌≤◌, ◌<◌, ltb, length, set}
use Rattle.wire.specs.Packet.{size, least_packet}
use Rattle.wire.specs.Judge.{header_verdict}
use Rattle.wire.specs.Refusal.{changes_nothing}
use Rattle.wire.specs.declared.refusal.Refusal.{Refusal}
use Rattle.receiver.specs.Receive as receive
use Rattle.receiver.specs.declared.Reception.{Reception}

-- ---- how many bytes are asked for: those of a header, then 12, which are fewer than any packet has, then those of the packet

unfoldable pub checkpoint : List ℕ → ℕ
checkpoint held = cond (ltb (length held) 7) 7 (cond (ltb (length held) 12) 12 (size held))

-- 0 where the held bytes are no proper beginning
unfoldable pub asked : List ℕ → ℕ
asked held = cond (receive.is_proper_beginning held) (checkpoint held) 0

-- the same of seven bytes or more
unfoldable pub asked_behind : List ℕ → ℕ
asked_behind held = cond (receive.is_good (header_verdict held) && ltb (length held) (size held)) (checkpoint held) 0

-- held bytes that were a proper beginning and asked for so many before the last one came: past the header they are at most all bytes of
-- the packet, and below what was asked for they are fewer
pub record GrownBeginning (held : List ℕ) (asked : ℕ) : Type 0 where
  pub least : 7 < length held → least_packet ≤ size held
  pub most : 7 < length held → length held ≤ size held
  pub below : length held < asked → 7 ≤ length held → (7 < length held) × (length held < size held)
  pub header : 7 ≤ asked

-- ---- what a byte comes to

abbrev pub or_refused : Result Unit Refusal → Reception → Reception
or_refused (Ok u) answer = answer
or_refused (Err r) answer = Reception.Refused r

-- how many bytes are held after an answer, where there are n with the new one
abbrev pub kept_after : Reception → ℕ → ℕ
kept_after Reception.Waiting n = n
kept_after (Reception.Refused r) n = 0
kept_after (Reception.Whole k) n = 0

-- the array: with refusal 1 as it was
abbrev pub array_after : List ℕ → ℕ → ℕ → receive.Reception → List ℕ
array_after a n b receive.waiting = set a n b
array_after a n b (receive.refused k) = cond (changes_nothing k) a (set a n b)
array_after a n b (receive.whole p) = set a n b
