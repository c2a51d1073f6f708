-- The digits of the bytes go right behind the name.
use mathlib.Core.List.{List, [], ◌∷◌, ◌++◌}
use mathlib.Core.Path.{◌≡◌}
use Prim.Native.Nat.{ℕ, ◌+◌, ◌*◌}
use native.Mathlib.Omega.{arith}
use lib.ListN.{length}
use lib.Seq.{paste}
use Rattle.wire.specs.Digits.{four, hex_of}
use Rattle.wire.proofs.DigitLaws.{hex_length}
use Rattle.messages.specs.Inner.{Writes}
use Rattle.messages.proofs.WriteLaws.{named_written}
use Rattle.messages.proofs.WriteLaws.Pasted.{put, done}
use Rattle.messages.proofs.write.put_named_bytes.Goals as goal

written : (kind : ℕ) (name s o b m : List ℕ) → b ≡ paste m 4 (hex_of s) (length (hex_of s)) → m ≡ paste o 0 name (length name)
    → length name ≡ 4 → Writes kind (name ++ hex_of s) (record { kind = kind; length = 4 + 2 * length s }) o b
written kind name s o b m e f four = named_written kind (4 + 2 * length s) name (hex_of s ∷ []) four (omega (arith, hex_length s)) f (put e done)

pub returns : goal.returns
returns c = search written
