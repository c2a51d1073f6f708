-- A text that was written stands at the start of its array.
use Prim.Native.Nat.{ℕ}
use mathlib.Core.List.{List}
use mathlib.Core.Path.{◌≡◌, sym}
use lib.ListN.{take}
use Rattle.wire.proofs.PacketLaws.{over-take}
use Rattle.messages.specs.Inner.{Writes}
use Rattle.messages.specs.declared.write.Written.{Written}

pub text-first : (type : ℕ) (text : List ℕ) (w : Written) (before after : List ℕ) → Writes type text w before after → take w.length after ≡ text
text-first type text w before after writes = rw writes.buffer (over-take text before w.length (sym writes.count))
