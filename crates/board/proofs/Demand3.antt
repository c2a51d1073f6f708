-- Demand 3 of this board is that of its kind, with the numbers written out.
use mathlib.Core.Path.{◌≡◌, refl, ap, sym, ◌∙◌}
use mathlib.Core.Bool.{Bool, true, false, cond, false≢true}
use mathlib.Core.List.{List, [], ◌∷◌, ◌++◌}
use Prim.Native.Nat.{ℕ, suc, ◌+◌}
use native.Mathlib.Omega.{arith}
use lib.Dec.{ltb}
use lib.ListN.{length, get_or, set, drop}
use borrow.Author.Tests.{ne_eqb}
use Rattle.wire.specs.Packet.{over}
use Rattle.wire.proofs.Tests.{cond-by}
use Rattle.layouts.specs.Layouts.{unused_store}
use Rattle.calls.specs.Board.{Identity, begun, ended, reply}
use Rattle.calls.specs.Calls.{is_short, at_rest, refuse, on_call}
use Rattle.calls.specs.Lists.{call, step, cut, from, run, Acceptance, identity, trace_after}
use Rattle.calls.proofs.Demand as kinds
use Rattle.calls.proofs.Steps.{Called, refuses, does, called}
use Rattle.calls.proofs.Kept.{unused-startable, rest-start}
use Rattle.calls.proofs.Theorem.{accepts, erases}
use Rattle.packets.specs.Packets.{BoardState, is_identity}
use Rattle.board.specs.BoardKind.{Call, byte, gap, last_answer, last_buffer, owes, board_kind}
use Rattle.board.specs.Demand3.{Events, unused_bytes, erase_reply_bytes, unused_trace, expected, NoneSent, reaches, owed, Demand3}
use Rattle.board.proofs.BoardLaws.{resting, board-laws}
use Rattle.board.proofs.Numbers.{reply-bytes, unused-bytes}
use Rattle.board.proofs.EraseRequest.{acceptable}

-- ---- what is expected

unused-trace : (i : Identity) (es : Events) → is_identity i ≡ true → kinds.run_unused board_kind i es ≡ unused_trace i es
unfolding kinds.run_unused from unused_trace
unused-trace i es named = rw (← unused-bytes, rest-start board-laws (unused-startable board-laws named))
    (ap (λ (m : List ℕ). run board_kind i (at_rest board_kind i) m es) unused-bytes)

last-answer : (i : Identity) (owed : Bool) → is_identity i ≡ true → last_answer i owed ≡ cond owed (reply 27) ended
last-answer i true named = rw (reply-bytes i named)
last-answer i false named = refl

last-buffer : (i : Identity) (owed : Bool) (lent : List ℕ) → is_identity i ≡ true → last_buffer i owed lent ≡ cond owed (erase_reply_bytes i.id ++ drop 27 lent) lent
unfolding over
last-buffer i true lent named = rw (reply-bytes i named)
last-buffer i false lent named = refl

written_out : (i : Identity) → is_identity i ≡ true → (w : Bool) (n : ℕ) (m : List ℕ) (es : Events) → kinds.expected board_kind i w n m es ≡ expected i w n m es
unfolding kinds.expected kinds.wiped expected is_short unused_store
written_out i named w n m [] = refl
written_out i named w n m (call (byte b) lent ∷ es) = rw (written_out i named w n m es)
written_out i named w n m (call gap lent ∷ es) = rw (written_out i named w n m es)
written_out i named w n m (cut ∷ es) = rw (written_out i named false 0 m es)
written_out i named w n m (step lent ∷ es) =
    let next = set m (suc n) (get_or unused_bytes (suc n) 0) in
    simp (
      last-answer i w named,
      last-buffer i w lent named,
      unused-trace i es named,
      written_out i named w n m es,
      written_out i named w (suc n) next es,
    )

-- ---- an acceptance

-- what answers erase begun is a sound board with no erase pending
accepted-named : (a : Acceptance board_kind) → is_identity a.state.ident ≡ true
unfolding refuse
accepted-named a = go (called board_kind a.given a.state a.store a.lent)
  where
    go : Called board_kind a.given a.state a.store a.lent (on_call board_kind a.given a.state a.store a.lent) → is_identity a.state.ident ≡ true
    go (refuses n e) = cc a.accepts
    go (does q h e) = (resting a.state a.store q h).named

owed-as : (c : Call) (s : BoardState) (m lent : List ℕ) (e : (on_call board_kind c s m lent).answer ≡ begun)
    → owes c s ≡ owed (record { given = c; state = s; store = m; lent = lent; accepts = e })
unfolding owes owed
owed-as (byte b) s m lent e = refl
owed-as gap s m lent e = sym (ne_eqb 0 (0x40 + s.ident.id) (λ z. omega arith))

trace_is : (a : Acceptance board_kind) (es : Events) → trace_after board_kind a es ≡ expected (identity board_kind a) (owed a) 0 (set a.store 0 0xE7) es
unfolding identity
trace_is a es =
    let E = erases board_kind board-laws in
    E.traced a es
    ∙ rw (E.stored a, owed-as a.given a.state a.store a.lent a.accepts) (written_out a.state.ident (accepted-named a) (owed a) 0 (set a.store 0 0xE7) es)

-- until the 128th step nothing is sent
none-sent : (i : Identity) (w : Bool) (n : ℕ) (m : List ℕ) (es : Events) → reaches n es ≡ false → NoneSent (expected i w n m es)
unfolding expected reaches NoneSent
none-sent i w n m [] h = tt
none-sent i w n m (call (byte b) lent ∷ es) h = none-sent i w n m es h
none-sent i w n m (call gap lent ∷ es) h = none-sent i w n m es h
none-sent i w n m (cut ∷ es) h = none-sent i false 0 m es h
none-sent i w n m (step lent ∷ es) h =
    cond-by NoneSent (ltb (length lent) 64) _ _ (λ t. none-sent i w n m es (simp t at h))
    (λ t. cond-by NoneSent (ltb n 127) _ _ (λ u. none-sent i w (suc n) _ es (simp (t, u) at h)) (λ u. absurd (false≢true (sym (simp (t, u) at h)))))

-- ---- the demand

pub demand3 : Demand3
demand3 =
    let E = erases board_kind board-laws in
    record {
      accepted_size = λ a. (accepts board-laws a).fits.size;
      accepted_store = E.stored;
      accepted_buffer = E.untouched;
      traced = trace_is;
      silent_until = λ a es h. rw (trace_is a es) (none-sent _ _ 0 _ es h);
      startable = E.startable;
      alike = E.alike;
      acceptable = acceptable;
    }
