-- What inner functions ask and give. No contract of an entry point cites it.
use Rattle.std.specs.Prelude.{Bool, List, [], ℕ, ◌≤◌, length}
use Rattle.wire.specs.Packet.{most_id, least_buffer}
use Rattle.plan.specs.Plans.{stores_of}
use Rattle.calls.specs.Board as calls
use Rattle.actions.specs.Inner.{StoreInRange, ItemsFit}
use Rattle.actions.specs.declared.Identity.{Identity}
use Rattle.packets.specs.Packets as packets
use Rattle.packets.specs.declared.Addressee.{Addressee}
use Rattle.packets.specs.declared.Acted.{Acted}
use Rattle.packets.specs.declared.Planned.{Planned}

abbrev pub addressee_of : Addressee → packets.Addressee
addressee_of Addressee.Own = packets.own
addressee_of Addressee.All = packets.all
addressee_of Addressee.Another = packets.another

-- a board that serves packets, with its store
pub record Serving (n : Identity) (m : List ℕ) : Type 0 where
  pub known : n.id ≤ most_id
  pub few : ItemsFit n
  pub ready : StoreInRange m

-- and with a buffer for the reply
pub record Addressed (n : Identity) (m lent : List ℕ) : Type 0 where
  pub serving : Serving n m
  pub room : least_buffer ≤ length lent

-- what a packet answers, and the erase after it
abbrev pub answer_after : Acted → calls.Answer ℕ
answer_after Acted.Refused = calls.refused 8
answer_after Acted.Silent = calls.silent
answer_after (Acted.Begun owed) = calls.begun
answer_after (Acted.Reply n) = calls.reply n

abbrev pub erase_after : Acted → calls.Erase Bool
erase_after Acted.Refused = calls.idle
erase_after Acted.Silent = calls.idle
erase_after (Acted.Begun owed) = calls.pending 1 owed
erase_after (Acted.Reply n) = calls.idle

-- the outcome at a board of an identity whose buffer is left so
abbrev pub outcome_of : Planned → calls.Identity → List ℕ → packets.BoardOutcome
outcome_of r i lent =
    record {
      answer = answer_after r.acted;
      state = record { ident = i; held = []; erase = erase_after r.acted };
      stores = stores_of r.plan;
      buffer = lent;
    }
