-- The digits of the counted bytes stand behind the space.
use native.Mathlib.Omega.{arith}
use Prim.Native.Nat.{◌≤◌}
use mathlib.Core.Path.{◌≡◌}
use lib.ListN.{length, take}
use lib.Seq.{length-take-le}
use Rattle.std.proofs.lemmas.List.{take_min}
use Rattle.transcript.proofs.LineLaws.{space_kept, hex_room, hex_put}
use borrow.Author.Rules.{rules}
use Rattle.transcript.proofs.line.put_reply.Goals as goal

pub slice_bounds-put_hex-end : goal.slice_bounds-put_hex-end
slice_bounds-put_hex-end c = search (rules, length-take-le)

pub put_hex-requires : goal.put_hex-requires
put_hex-requires c = hex_room _ _ _ _ (omega arith) (omega arith) c.requires.0

pub shape_of-out : goal.shape_of-out
shape_of-out c = search space_kept

pub returns : goal.returns
returns c =
    let few : c.min-n.result ≤ length c.args.reply.now = omega arith in
    let same : take c.min-n.result c.args.reply.now ≡ take c.args.count c.args.reply.now = rw c.min-n.ensures (take_min _ _) in
    (search hex_put, omega arith)
