-- What a board's identity in code means. A serial number or a model whose count is past its 16 bytes is seen as 17 bytes, which is out of
-- range (docs/RULES.md, ST4).
use Rattle.std.specs.Prelude.{List, [], ◌∷◌, ◌++◌, ℕ, take}
use Rattle.wire.specs.declared.digits.Octets.{Octets}
use Rattle.calls.specs.Board as calls
use Rattle.actions.specs.declared.Identity.{Identity}

abbrev pub identity_bytes : Octets → List ℕ
identity_bytes t = take t.count (t.bytes ++ (0x00 ∷ []))

abbrev pub identity_of : Identity → calls.Identity
identity_of n = record { id = n.id; serial = identity_bytes n.serial; model = identity_bytes n.model }
