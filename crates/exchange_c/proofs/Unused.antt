-- An unused board is at rest: its bytes are in range, and bytes.
use mathlib.Core.Path.{◌≡◌, refl, subst}
use mathlib.Core.Bool.{true}
use Prim.Native.Nat.{◌≤◌}
use borrow.Author.Tests.{le-leb}
use lib.ListN.{length}
use Rattle.messages.specs.Message.{IsItem}
use Rattle.layouts.proofs.UnusedLaws.{unused-length, unused_in-range}
use Rattle.calls.specs.Board.{Identity}
use Rattle.packets.specs.Packets.{is_identity}
use Rattle.board.specs.Demand3.{unused_bytes}
use Rattle.board.proofs.BoardLaws.{resting-sound, nothing_proper}
use Rattle.board.proofs.Numbers.{unused-bytes}
use Rattle.exchange.specs.Rows.{Ready}
use Rattle.exchange_c.proofs.StoredBytes.{unused-are_bytes}

named : (i : Identity) → 1 ≤ i.id → i.id ≤ 8 → length i.serial ≤ 16 → length i.model ≤ 16 → is_identity i ≡ true
unfolding is_identity
named i least most serial model =
    rw (le-leb 1 i.id least, le-leb i.id 8 most, le-leb (length i.serial) 16 serial, le-leb (length i.model) 16 model)

pub unused_ready : (i : Identity) → 1 ≤ i.id → i.id ≤ 8 → IsItem i.serial → IsItem i.model → Ready i unused_bytes
unused_ready i least most serial model =
    subst (Ready i) unused-bytes
    (record {
      rests = record {
        sound = resting-sound
            (record { named = named i least most serial.few model.few; size = unused-length; marked = refl; ranged = unused_in-range; proper = nothing_proper });
        resting = refl;
        empty = refl;
      };
      in_bytes = record { serial = serial.bytes; model = model.bytes; store = unused-are_bytes };
    })
