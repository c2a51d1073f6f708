-- An identity in range: ID 1 to 8, and at most 16 bytes of serial number and of model.
use mathlib.Core.Path.{◌≡◌}
use mathlib.Core.Bool.{true, ◌&&◌}
use Prim.Native.Nat.{◌≤◌}
use lib.Dec.{leb}
use lib.ListN.{length}
use borrow.Author.Tests.{leb-true}
use Rattle.wire.proofs.Tests.{both}
use Rattle.calls.specs.Board.{Identity}
use Rattle.packets.specs.Packets.{is_identity}

pub record Named (i : Identity) : Type 0 where
  pub least : 1 ≤ i.id
  pub most : i.id ≤ 8
  pub serial : length i.serial ≤ 16
  pub model : length i.model ≤ 16

pub named_told : (i : Identity) → is_identity i ≡ true → Named i
unfolding is_identity
named_told i h =
    let x = both (leb 1 i.id && leb i.id 8 && leb (length i.serial) 16) (leb (length i.model) 16) h in
    let y = both (leb 1 i.id && leb i.id 8) (leb (length i.serial) 16) x.0 in
    let z = both (leb 1 i.id) (leb i.id 8) y.0 in
    record { least = leb-true _ _ z.0; most = leb-true _ _ z.1; serial = leb-true _ _ y.1; model = leb-true _ _ x.1 }
