-- How many bytes the plan of a packet has: a tag write, to this board or to all, stores 34, a schedule write 5, an enable 1.
use mathlib.Core.Bool.{true, ◌&&◌}
use mathlib.Core.List.{List}
use mathlib.Core.Option.{some}
use mathlib.Core.Path.{◌≡◌, refl, ap, subst}
use mathlib.Core.Logic.{◌≢◌}
use Prim.Native.Nat.{ℕ}
use native.Mathlib.Omega.{arith}
use borrow.Author.Tests.{leb-true}
use lib.ListN.{length, get_or}
use Rattle.plan.specs.Plans.{stores_of}
use Rattle.wire.specs.Packet.{packet_text}
use Rattle.messages.specs.Message.Request.{tag_write, schedule}
use Rattle.messages.specs.Message.ScheduleRequest.{schedule_write, schedule_enable}
use Rattle.messages.specs.Read.{request_in}
use Rattle.store.proofs.TagLaws.{tag_count}
use Rattle.schedule.specs.Numbers.{is_accepted, is_listed, is_enable, kept_fields}
use Rattle.schedule.proofs.NumberLaws.{accepted-listed}
use Rattle.schedule.proofs.ProgramLaws.{program_count, enable-count}
use Rattle.wire.proofs.Tests.{both}
use Rattle.calls.specs.Board.{Identity}
use Rattle.actions.specs.Act.{schedule_write_effect, schedule_enable_effect, schedule_effect, effect_of}
use Rattle.packets.specs.Packets.{BoardOutcome, Addressee, own, all, another, addressee, to_own, to_all, on_packet_to, on_packet}
use Rattle.packets.specs.Inner.{outcome_of}
use Rattle.packets.specs.declared.Planned.{Planned}
use Rattle.packets.proofs.EffectLaws.{Few, request-few}

-- the plan that the code of a packet hands back has as many entries as the packet stores
planned : (i : Identity) (m p lent : List ℕ) (n : ℕ) → ((to : Addressee) → to ≢ another → length (on_packet_to to i m p lent).stores ≡ n)
    → (r : Planned) (lent' : List ℕ) → outcome_of r i lent' ≡ on_packet i m p lent → addressee i.id (get_or p 2 0) ≢ another
    → length (stores_of r.plan) ≡ n
unfolding on_packet
planned i m p lent n stores r lent' told other = rw (ap (λ (o : BoardOutcome). o.stores) told) (stores (addressee i.id (get_or p 2 0)) other)

module _ (i : Identity) (m p lent tag : List ℕ) (size : length m ≡ 128) (asks : request_in (get_or p 4 0) (packet_text p) ≡ some (tag_write tag)) where
  stores-34 : (to : Addressee) → to ≢ another → length (on_packet_to to i m p lent).stores ≡ 34
  unfolding on_packet_to to_own to_all effect_of
  stores-34 own n = rw asks (tag_count m tag size (subst Few asks (request-few (get_or p 4 0) (packet_text p))))
  stores-34 all n = rw asks (tag_count m tag size (subst Few asks (request-few (get_or p 4 0) (packet_text p))))
  stores-34 another n = absurd (n refl)

  pub tag_plan_34 : (r : Planned) (lent' : List ℕ) → outcome_of r i lent' ≡ on_packet i m p lent → addressee i.id (get_or p 2 0) ≢ another
      → length (stores_of r.plan) ≡ 34
  tag_plan_34 = planned i m p lent 34 stores-34

module _ (i : Identity) (m p lent numbers : List ℕ) (size : length m ≡ 128) (accepted : is_accepted numbers ≡ true)
    (asks : request_in (get_or p 4 0) (packet_text p) ≡ some (schedule (schedule_write numbers))) where
  stores-5 : (to : Addressee) → to ≢ another → length (on_packet_to to i m p lent).stores ≡ 5
  unfolding on_packet_to to_own to_all effect_of schedule_effect schedule_write_effect
  stores-5 own n = rw (asks, accepted) (program_count m (get_or numbers 0 0) (kept_fields numbers) size (accepted-listed numbers accepted))
  stores-5 all n = rw (asks, accepted) (program_count m (get_or numbers 0 0) (kept_fields numbers) size (accepted-listed numbers accepted))
  stores-5 another n = absurd (n refl)

  pub schedule-plan_5 : (r : Planned) (lent' : List ℕ) → outcome_of r i lent' ≡ on_packet i m p lent → addressee i.id (get_or p 2 0) ≢ another
      → length (stores_of r.plan) ≡ 5
  schedule-plan_5 = planned i m p lent 5 stores-5

module _ (i : Identity) (m p lent : List ℕ) (k enable : ℕ) (size : length m ≡ 128) (accepted : (is_listed k && is_enable enable) ≡ true)
    (asks : request_in (get_or p 4 0) (packet_text p) ≡ some (schedule (schedule_enable k enable))) where
  stores-1 : (to : Addressee) → to ≢ another → length (on_packet_to to i m p lent).stores ≡ 1
  unfolding on_packet_to to_own to_all effect_of schedule_effect schedule_enable_effect
  stores-1 own n = let l = leb-true k 6 (both (is_listed k) (is_enable enable) accepted).0 in rw (asks, accepted) (enable-count m k enable size (omega arith))
  stores-1 all n = let l = leb-true k 6 (both (is_listed k) (is_enable enable) accepted).0 in rw (asks, accepted) (enable-count m k enable size (omega arith))
  stores-1 another n = absurd (n refl)

  pub enable-plan_1 : (r : Planned) (lent' : List ℕ) → outcome_of r i lent' ≡ on_packet i m p lent → addressee i.id (get_or p 2 0) ≢ another
      → length (stores_of r.plan) ≡ 1
  enable-plan_1 = planned i m p lent 1 stores-1
