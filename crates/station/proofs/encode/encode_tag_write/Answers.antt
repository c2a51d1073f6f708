-- A tag of at most 16 bytes is held whole; a longer one is refused, whatever request stands for it.
use borrow.Author.Tests.{lt-leb}
use mathlib.Core.Bool.{false}
use mathlib.Core.List.{List}
use mathlib.Core.Option.{Option, none, some}
use mathlib.Core.Path.{◌≡◌, refl}
use Prim.Native.Nat.{ℕ}
use lib.ListN.{length, drop, replicate}
use lib.Seq.{take_at}
use Rattle.wire.specs.Digits.{padded, octets, octets_of}
use Rattle.messages.specs.Message as message
use Rattle.messages.specs.Text.{request_type, request_text}
use Rattle.station.specs.Encode.{address_in, encoding_to, encoding_of}
use Rattle.station.proofs.encode.encode_tag_write.Goals as goal

-- what is not good is refused whatever the request
bad_to_alike : (address : Option ℕ) (k l : ℕ) (s t : List ℕ) → encoding_to address false k s ≡ encoding_to address false l t
bad_to_alike none k l s t = refl
bad_to_alike (some a) k l s t = refl

octets-back : (s : List ℕ) → octets_of (octets s) ≡ s
unfolding padded
octets-back s = take_at s (drop (length s) (replicate 16 0)) (length s) refl

pub returns-then-tag-gt16 : goal.returns-then-tag-gt16
unfolding encoding_of
returns-then-tag-gt16 c =
    rw (lt-leb (length c.args.tag.now) 16 c.if-tag-gt16.true, bad_to_alike (address_in c.args.dest) _ (request_type message.power_read) _ (request_text message.power_read)) c.encode.ensures

pub returns : goal.returns
returns c = rw (c.of.ensures, octets-back c.args.tag.now) at c.encode_request.ensures
