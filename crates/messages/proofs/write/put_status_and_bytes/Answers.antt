-- Name, status and the digits of the bytes, each right behind the one before.
use mathlib.Core.List.{List, [], ◌∷◌, ◌++◌}
use mathlib.Core.Path.{◌≡◌}
use Prim.Native.Nat.{ℕ, ◌+◌, ◌*◌}
use native.Mathlib.Omega.{arith}
use lib.ListN.{length}
use lib.Seq.{paste}
use Rattle.wire.specs.Digits.{two, four, hex_of}
use Rattle.wire.specs.Packet.{type_b}
use Rattle.wire.proofs.DigitLaws.{hex_length}
use Rattle.messages.specs.View.{status_number}
use Rattle.messages.specs.Inner.{Writes}
use Rattle.messages.specs.declared.message.Status.{Status}
use Rattle.messages.proofs.WriteLaws.{named_written}
use Rattle.messages.proofs.WriteLaws.Pasted.{put, done}
use Rattle.messages.proofs.write.put_status_and_bytes.Goals as goal

written : (name : List ℕ) (status : Status) (s o b m₂ m₁ : List ℕ) (n : ℕ)
    → b ≡ paste m₂ 6 (hex_of s) (length (hex_of s)) → m₂ ≡ paste m₁ 4 (two n) 2 → n ≡ status_number status
    → m₁ ≡ paste o 0 name (length name) → length name ≡ 4
    → Writes type_b (name ++ (two (status_number status) ++ hex_of s)) (record { kind = type_b; length = 6 + 2 * length s }) o b
written name status s o b m₂ m₁ n g f is e four =
    rw (← is)
    (named_written type_b (6 + 2 * length s) name (two n ∷ hex_of s ∷ []) four (omega (arith, hex_length s)) e (put f (put g done)))

pub returns : goal.returns
returns c = search written
