-- The tests and the address are those of the definition, and the packet holds the text that was written.
use borrow.Author.Tests.{le-ltb}
use mathlib.Core.Path.{◌≡◌}
use native.Mathlib.Omega.{arith}
use Rattle.std.specs.Prelude.{Some}
use Rattle.wire.specs.Packet.{least_buffer}
use Rattle.messages.proofs.SendLaws.{text-first}
use Rattle.station.specs.Encode.{encoding_of}
use Rattle.station.proofs.encode.encode.Goals as goal

pub returns : goal.returns
unfolding encoding_of
returns c =
    let known : c.address_of.result ≡ Some c.in_ok-address.address = grind arith in
    let writes = c.request_text-written.ensures.text in
    rw (
      le-ltb _ least_buffer c.if-out-lt-LEAST_BUFFER.false,
      ← c.address_of.ensures,
      known,
      c.if-not-in_range.false,
      ← text-first _ _ _ _ _ writes,
      ← writes.kind,
    )
    (record { answer = c.put_packet.ensures.0; buffer = c.put_packet.ensures.1 })
