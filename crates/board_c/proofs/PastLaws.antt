-- Nothing of the past is left in a state's bytes: with the last step of an erase they are those that a start gives.
use mathlib.Core.Path.{◌≡◌, refl, ap, sym, ◌∙◌}
use mathlib.Core.Bool.{Bool, true, false, cond}
use mathlib.Core.List.{List, [], ◌∷◌}
use Prim.Native.Nat.{ℕ, suc}
use lib.ListN.{replicate}
use native.Mathlib.Omega.{arith}
use borrow.Author.Tests.{eq-eqb}
use Rattle.calls.specs.Board as calls
use Rattle.calls.specs.Board.{Identity, begun, Started}
use Rattle.calls.specs.Calls.{at_rest, on_call, on_step, on_start}
use Rattle.calls.specs.Lists.{Event, call, step, cut, is_last, ends}
use Rattle.calls.proofs.Kept.{unused-startable, rest-start}
use Rattle.calls.proofs.Pending.{Pending, pending_start}
use Rattle.packets.specs.Packets.{BoardState, BoardOutcome, is_identity}
use Rattle.packets.proofs.IdentityLaws.{named_told}
use Rattle.wire.specs.Digits.{padded}
use Rattle.layouts.specs.Layouts.{unused_store}
use Rattle.wire.proofs.DigitLaws.{padded-length}
use Rattle.board.specs.BoardKind.{Call, byte, gap, board_kind}
use Rattle.board.specs.Demand3.{Events}
use Rattle.board.specs.View.{state_of}
use Rattle.board.specs.Values.{fresh_board, erase_from, with_erase, byte_leaves, gap_leaves, call_leaves, step_leaves, value_after, store_after}
use Rattle.board.specs.Inner.{Sized}
use Rattle.board.specs.declared.board.Board.{Board}
use Rattle.board.specs.declared.board.Erase.{Erase}
use Rattle.board.proofs.PastLaws.{pending_board, Next, continues, ended, next_of, accepted-fresh, accepted-pending}
use Rattle.board.proofs.BoardLaws.{board-laws}
use Rattle.board.proofs.RefusalLaws.{refused-by_check, step-refused}
use Rattle.board_c.specs.State.{board_in, state_bytes, state_in}
use Rattle.board_c.specs.Exports.{keeps_all, state_left, start_in, state_started, state_after, stored_after, state_after_all}
use Rattle.board_c.proofs.StateLaws.{size_of, back}
use Rattle.board_c.proofs.AnswerLaws.{kept_by}

fresh-sized : (i : Identity) (e : Erase) → is_identity i ≡ true → Sized (fresh_board i e)
fresh-sized i e named =
    let n = named_told i named in
    record { serial = padded-length i.serial n.serial; model = padded-length i.model n.model; held = refl }

-- ---- an answer that keeps all keeps the value

not_kept : {A : Type 0} → false ≡ true → A
not_kept e = let z : ◌≡◌ {A = ℕ} 0 1 = cc in absurd (omega arith)

byte-kept : (b : Board) (x : ℕ) (s : BoardState) (a : calls.Answer ℕ) → keeps_all a ≡ true → byte_leaves b x s a ≡ b
byte-kept b x s calls.waiting e = not_kept e
byte-kept b x s calls.silent e = not_kept e
byte-kept b x s calls.begun e = not_kept e
byte-kept b x s calls.more e = refl
byte-kept b x s calls.ended e = refl
byte-kept b x s (calls.refused n) e = rw e
byte-kept b x s (calls.reply n) e = not_kept e

gap-kept : (b : Board) (a : calls.Answer ℕ) → keeps_all a ≡ true → gap_leaves b a ≡ b
gap-kept b calls.waiting e = not_kept e
gap-kept b calls.silent e = refl
gap-kept b calls.begun e = refl
gap-kept b calls.more e = refl
gap-kept b calls.ended e = refl
gap-kept b (calls.refused n) e = refl
gap-kept b (calls.reply n) e = refl

call_kept : (c : Call) (b : Board) (o : BoardOutcome) → keeps_all o.answer ≡ true → call_leaves c b o ≡ b
call_kept (byte x) b o e = byte-kept b x o.state o.answer e
call_kept gap b o e = gap-kept b o.answer e

-- so the bytes are those of the value that is left, where they were a value's
left-bytes : (v : Board) (leaves : BoardOutcome → Board) (o : BoardOutcome) → (keeps_all o.answer ≡ true → leaves o ≡ v)
    → state_left leaves o (state_bytes v) ≡ state_bytes (leaves o)
left-bytes v leaves o f = go (keeps_all o.answer) refl
  where
    go : (t : Bool) → keeps_all o.answer ≡ t → cond t (state_bytes v) (state_bytes (leaves o)) ≡ state_bytes (leaves o)
    go true k = ap state_bytes (sym (f k))
    go false k = refl

-- ---- while an erase is pending

module _ (i : Identity) (n : ℕ) (owed : Bool) (m : List ℕ) (h : Pending board_kind i n m) where
  read : board_in (state_bytes (pending_board i n owed)) ≡ pending_board i n owed
  read = back (pending_board i n owed) (fresh-sized i (Erase.Pending (suc n) owed) h.named)

  step_kept : (lent : List ℕ) → keeps_all (on_step board_kind (state_of (pending_board i n owed)) m lent).answer ≡ true
      → step_leaves (pending_board i n owed) (on_step board_kind (state_of (pending_board i n owed)) m lent) ≡ pending_board i n owed
  step_kept lent k =
      let s = state_of (pending_board i n owed) in
      let same = kept_by s lent (on_step board_kind s m lent) (λ j e. refused-by_check (step-refused s m lent j e)) k in
      ap (λ (x : BoardState). with_erase (pending_board i n owed) (erase_from x.erase)) same

  follows : (e : Event Call) → state_after i (state_bytes (pending_board i n owed)) m e ≡ state_bytes (value_after i (pending_board i n owed) m e)
  unfolding state_after value_after start_in
  follows (call c lent) =
      let v = pending_board i n owed in
      let o = on_call board_kind c (state_of v) m lent in
      rw read (left-bytes v (call_leaves c v) o (call_kept c v o))
  follows (step lent) =
      let v = pending_board i n owed in
      rw read (left-bytes v (step_leaves v) (on_step board_kind (state_of v) m lent) (step_kept lent))
  follows cut = rw (pending_start h, eq-eqb _ _ (size_of (pending_board i n owed) (fresh-sized i (Erase.Pending (suc n) owed) h.named)))

  stores-follow : (e : Event Call) → stored_after i (state_bytes (pending_board i n owed)) m e ≡ store_after i (pending_board i n owed) m e
  unfolding stored_after store_after start_in
  stores-follow (call c lent) = rw read
  stores-follow (step lent) = rw read
  stores-follow cut = rw (pending_start h, eq-eqb _ _ (size_of (pending_board i n owed) (fresh-sized i (Erase.Pending (suc n) owed) h.named)))

nothing-more : (i : Identity) (s m : List ℕ) (es : Events) → is_last es ≡ true → state_after_all i s m es ≡ s
unfolding state_after_all is_last
nothing-more i s m [] e = refl
nothing-more i s m (x ∷ es) e = cc

pending-erased : (es : Events) (i : Identity) (n : ℕ) (owed : Bool) (m : List ℕ) → Pending board_kind i n m → ends n es ≡ true
    → state_after_all i (state_bytes (pending_board i n owed)) m es ≡ state_bytes (fresh_board i Erase.Idle)
unfolding state_after_all ends
pending-erased [] i n owed m h e = cc
pending-erased (x ∷ es) i n owed m h e =
    rw (follows i n owed m h x, stores-follow i n owed m h x) (go (next_of i n owed m h x) (λ n' owed' k. pending-erased es i n' owed' k))
  where
    m' : List ℕ
    m' = store_after i (pending_board i n owed) m x

    go : Next i n owed m x
        → ((n' : ℕ) (owed' : Bool) (k : List ℕ) → Pending board_kind i n' k → ends n' es ≡ true
        → state_after_all i (state_bytes (pending_board i n' owed')) k es ≡ state_bytes (fresh_board i Erase.Idle))
        → state_after_all i (state_bytes (value_after i (pending_board i n owed) m x)) m' es ≡ state_bytes (fresh_board i Erase.Idle)
    go (continues n' owed' v p f) rest = rw v (rest n' owed' m' p (sym (f es) ∙ e))
    go (ended v f) rest = rw v (nothing-more i (state_bytes (fresh_board i Erase.Idle)) m' es (sym (f es) ∙ e))

-- a start on an unused board's bytes writes those of the fresh value
unused-started : (i : Identity) (s : List ℕ) → is_identity i ≡ true → state_started (on_start board_kind i unused_store) s ≡ state_bytes (fresh_board i Erase.Idle)
unfolding at_rest
unused-started i s named = ap (λ (r : Started BoardState). state_started r s) (rest-start board-laws (unused-startable board-laws named))

-- ---- from any bytes at all that a call answers with erase begun

module _ (s m : List ℕ) (c : Call) (lent : List ℕ) (a : (on_call board_kind c (state_in s) m lent).answer ≡ begun) where
  accepted-bytes : state_after (state_in s).ident s m (call c lent) ≡ state_bytes (pending_board (state_in s).ident 0 (board_kind.owes c (state_in s)))
  unfolding state_after value_after
  accepted-bytes = begins (on_call board_kind c (state_in s) m lent) a ∙ ap state_bytes (accepted-fresh (board_in s) m c lent a)
    where
      begins : (o : BoardOutcome) → o.answer ≡ begun → state_left (call_leaves c (board_in s)) o s ≡ state_bytes (call_leaves c (board_in s) o)
      begins o e = rw e

  erased-fresh : (es : Events) → ends 0 es ≡ true → state_after_all (state_in s).ident s m (call c lent ∷ es) ≡ state_bytes (fresh_board (state_in s).ident Erase.Idle)
  unfolding state_after_all stored_after store_after
  erased-fresh es e =
      rw accepted-bytes (pending-erased es (state_in s).ident 0 (board_kind.owes c (state_in s)) _ (accepted-pending (board_in s) m c lent a) e)

  -- with the 128th step they are those that a start writes, over any bytes, on an unused board's store
  pub past_erased : (es : Events) → ends 0 es ≡ true → (before : List ℕ)
      → state_after_all (state_in s).ident s m (call c lent ∷ es) ≡ state_started (on_start board_kind (state_in s).ident unused_store) before
  past_erased es e before = erased-fresh es e ∙ sym (unused-started (state_in s).ident before (accepted-pending (board_in s) m c lent a).named)

-- ---- a fresh state's bytes, written out

pub fresh-written : state_bytes (fresh_board (record { id = 1; serial = 0x41 ∷ []; model = [] }) Erase.Idle) ≡ 0x01 ∷ 0x01 ∷ 0x41 ∷ replicate 108 0x00
unfolding state_bytes padded
fresh-written = refl
