-- What inner functions ask and give. No contract of an entry point cites it.
use Rattle.std.specs.Prelude.{true, List, ◌≡◌, ℕ, ◌≤◌, length}
use Rattle.plan.specs.Stores.{Entry}
use Rattle.plan.specs.Plans.{stores_of}
use Rattle.messages.specs.View.{reply_of, reply_count}
use Rattle.layouts.specs.Layouts.{in_range}
use Rattle.actions.specs.Act as act
use Rattle.actions.specs.declared.Effect.{Effect}
use Rattle.actions.specs.declared.Decision.{Decision}
use Rattle.actions.specs.declared.Identity.{Identity}

abbrev pub effect_with : Effect → List Entry → act.Effect
effect_with (Effect.Replies r) es = act.replies (reply_of r) es
effect_with Effect.Begins es = act.begins

abbrev pub decision : Decision → act.Effect
decision d = effect_with d.effect (stores_of d.plan)

-- a reply counts no more bytes than there are
abbrev pub Sendable : Effect → Type 0
Sendable (Effect.Replies r) = reply_count r ≤ 16
Sendable Effect.Begins = Unit {0}

-- what a decision says, and that its reply can be sent
pub record Decides (d : Decision) (e : act.Effect) : Type 0 where
  pub effect : decision d ≡ e
  pub sendable : Sendable d.effect

-- a store that a decision is made on
pub record StoreInRange (m : List ℕ) : Type 0 where
  pub size : length m ≡ 128
  pub ranged : in_range m ≡ true

-- an identity whose counts are within the 16 bytes that are there
pub record ItemsFit (n : Identity) : Type 0 where
  pub serial_few : n.serial.count ≤ 16
  pub model_few : n.model.count ≤ 16
