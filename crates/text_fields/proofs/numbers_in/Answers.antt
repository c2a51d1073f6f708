-- 32 digits give sixteen bytes, behind which the array has no room for a zero.
use mathlib.Core.List.{List, append-nil}
use mathlib.Core.Option.{some}
use mathlib.Core.Path.{◌≡◌, sym}
use Prim.Native.Nat.{ℕ}
use native.Mathlib.Omega.{arith}
use borrow.Author.Tests.{eq-eqb}
use lib.ListN.{length}
use Rattle.wire.specs.Digits.{octets_of, octets_in, padded, Exact}
use Rattle.wire.specs.declared.digits.Octets.{Octets}
use Rattle.wire.proofs.DigitLaws.{bytes-length}
use Rattle.messages.specs.Read.{numbers_in}
use Rattle.text_fields.proofs.numbers_in.Goals as goal

padded_sixteen : (s : List ℕ) → length s ≡ 16 → padded s ≡ s
unfolding padded
padded_sixteen s e = rw (e, append-nil)

sixteen : (t : List ℕ) (o : Octets) → length t ≡ 32 → some (octets_of o) ≡ octets_in t → Exact o → some o.bytes ≡ octets_in t
sixteen t o few e exact =
    let size : length (octets_of o) ≡ 16 = omega (arith, bytes-length t (sym e)) in
    rw (exact.padding, padded_sixteen (octets_of o) size) e

pub returns : goal.returns
unfolding numbers_in
returns c = rw (eq-eqb _ 32 c.if-text-ne32.false)
    (sixteen c.args.text.now c.in_ok-numbers.numbers c.if-text-ne32.false c.in_ok-numbers.ensures.bytes c.in_ok-numbers.ensures.exact)
