-- What inner functions ask and give. No contract of an entry point cites it.
use Rattle.std.specs.Prelude.{List, ◌≡◌, ℕ, length}
use Rattle.wire.specs.Packet.{over}
use Rattle.messages.specs.declared.write.Written.{Written}

-- a text of a type, written at the start of a buffer
pub record Writes (type : ℕ) (text : List ℕ) (r : Written) (before after : List ℕ) : Type 0 where
  pub kind : r.kind ≡ type
  pub count : r.length ≡ length text
  pub buffer : after ≡ over text before
