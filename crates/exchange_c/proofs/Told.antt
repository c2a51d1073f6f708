-- What the reader tells C of a packet in which the station reads a reply.
use mathlib.Core.Path.{◌≡◌, refl}
use mathlib.Core.List.{List, ◌∷◌}
use Prim.Native.Nat.{ℕ}
use borrow.Author.Tests.{le-ltb}
use lib.ListN.{length}
use Rattle.messages.specs.Message.{Reply, reply_bytes}
use Rattle.station.specs.Read.{reply, read_packet}
use Rattle.station.proofs.ReadLaws.{read-framed}
use Rattle.station_c.specs.Read.{reply_kind, numbers_of, read_into}
use Rattle.exchange_c.specs.Demand2.{Told, IsTold}

-- a reply with its sender's ID, as kind, numbers and bytes
abbrev pub tells_of : ℕ → Reply → Told
tells_of id x = record { kind = reply_kind x; numbers = id ∷ numbers_of x; bytes = reply_bytes x }

pub read_told : (packet : List ℕ) (id : ℕ) (x : Reply) → read_packet packet ≡ reply id x → IsTold packet (tells_of id x)
unfolding read_into
read_told packet id x e =
    record {
      framed = read-framed packet e;
      read = λ numbers bytes count nine sixteen.
          rw (le-ltb (length numbers) 9 nine, le-ltb (length bytes) 16 sixteen, e) (record { result = refl; numbers = refl; bytes = refl; count = refl });
    }
