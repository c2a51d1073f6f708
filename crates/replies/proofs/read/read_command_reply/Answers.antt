-- The names in the order of the definition; the callee of the one that is there reads what is behind it.
use mathlib.Core.List.{List}
use mathlib.Core.Path.{◌≡◌}
use Prim.Native.Nat.{ℕ, ◌-◌}
use native.Mathlib.Omega.{arith}
use lib.ListN.{length, take, drop, length-drop}
use lib.Seq.{take_all}
use Rattle.messages.specs.Read.{command_reply_in}
use Rattle.replies.proofs.read.read_command_reply.Goals as goal

-- the part `&text[4..]`
behind_name : (t : List ℕ) → take (length t - 4) (drop 4 t) ≡ drop 4 t
behind_name t = take_all (length t - 4) (drop 4 t) (simp length-drop (omega arith))

pub returns-then-begins_with-4-clause-reply : goal.returns-then-begins_with-4-clause-reply
unfolding command_reply_in
returns-then-begins_with-4-clause-reply c =
    rw (
      ← c.begins_with.ensures.value,
      c.if-begins_with.false,
      ← c.begins_with-2.ensures.value,
      c.if-begins_with-2.false,
      ← c.begins_with-3.ensures.value,
      c.if-begins_with-3.false,
      ← c.begins_with-4.ensures.value,
      c.if-begins_with-4.true,
    )
    (rw behind_name at c.read_item_reply-then-begins_with-4.ensures.reply)

pub returns-then-begins_with-5-clause-reply : goal.returns-then-begins_with-5-clause-reply
unfolding command_reply_in
returns-then-begins_with-5-clause-reply c =
    rw (
      ← c.begins_with.ensures.value,
      c.if-begins_with.false,
      ← c.begins_with-2.ensures.value,
      c.if-begins_with-2.false,
      ← c.begins_with-3.ensures.value,
      c.if-begins_with-3.false,
      ← c.begins_with-4.ensures.value,
      c.if-begins_with-4.false,
      ← c.begins_with-5.ensures.value,
      c.if-begins_with-5.true,
    )
    (rw behind_name at c.read_tag_write_reply.ensures.reply)

pub returns-then-begins_with-6-clause-reply : goal.returns-then-begins_with-6-clause-reply
unfolding command_reply_in
returns-then-begins_with-6-clause-reply c =
    rw (
      ← c.begins_with.ensures.value,
      c.if-begins_with.false,
      ← c.begins_with-2.ensures.value,
      c.if-begins_with-2.false,
      ← c.begins_with-3.ensures.value,
      c.if-begins_with-3.false,
      ← c.begins_with-4.ensures.value,
      c.if-begins_with-4.false,
      ← c.begins_with-5.ensures.value,
      c.if-begins_with-5.false,
      ← c.begins_with-6.ensures.value,
      c.if-begins_with-6.true,
    )
    (rw behind_name at c.read_schedule_read_reply.ensures.reply)

pub returns-then-begins_with-7-clause-reply : goal.returns-then-begins_with-7-clause-reply
unfolding command_reply_in
returns-then-begins_with-7-clause-reply c =
    rw (
      ← c.begins_with.ensures.value,
      c.if-begins_with.false,
      ← c.begins_with-2.ensures.value,
      c.if-begins_with-2.false,
      ← c.begins_with-3.ensures.value,
      c.if-begins_with-3.false,
      ← c.begins_with-4.ensures.value,
      c.if-begins_with-4.false,
      ← c.begins_with-5.ensures.value,
      c.if-begins_with-5.false,
      ← c.begins_with-6.ensures.value,
      c.if-begins_with-6.false,
      ← c.begins_with-7.ensures.value,
      c.if-begins_with-7.true,
    )
    (rw behind_name at c.read_schedule_write_reply.ensures.reply)
