-- Nothing of the past is left in a board's value: while an erase is pending it is the fresh one of its identity, and after the last step too.
use mathlib.Core.Path.{◌≡◌, refl, ap, sym, ◌∙◌, subst}
use mathlib.Core.Bool.{Bool, true, false, cond, ◌&&◌}
use mathlib.Core.List.{List, [], ◌∷◌}
use Prim.Native.Nat.{ℕ, suc, ◌≤◌}
use native.Mathlib.Omega.{arith}
use borrow.Author.Tests.{ltb-true, ne_eqb, lt-leb}
use Rattle.wire.specs.Refusal.{changes_nothing}
use Rattle.layouts.specs.Layouts.{unused_store}
use Rattle.calls.specs.Board.{Identity, Answer, waiting, begun, refused, Started}
use Rattle.calls.specs.Calls.{is_short, refuse, at_rest, erasing, clear_step, end_step, on_call, on_step, on_start}
use Rattle.calls.specs.Lists.{Event, call, step, cut, is_last, ends, Acceptance, left}
use Rattle.calls.proofs.Demand.{wiped}
use Rattle.calls.proofs.Kept.{begins-pending, unused-startable, rest-start}
use Rattle.calls.proofs.Pending.{Pending, pending_again, pending_next, pending_call, pending_step, pending_start}
use Rattle.calls.proofs.Steps.{Called, refuses, does, called}
use Rattle.calls.proofs.Theorem.{accepts}
use Rattle.packets.specs.Packets.{BoardState, BoardOutcome, is_identity}
use Rattle.board.specs.BoardKind as kind
use Rattle.board.specs.BoardKind.{Call, byte, gap, lends, board_kind}
use Rattle.board.specs.Demand3.{Events}
use Rattle.board.specs.View.{state_of}
use Rattle.board.specs.Values.{fresh_board, call_leaves, start_leaves, store_started, value_after, store_after, value_after_all}
use Rattle.board.specs.declared.board.Erase.{Erase}
use Rattle.board.specs.declared.board.Board.{Board}
use Rattle.board.proofs.BoardLaws.{board-laws}
use Rattle.board.proofs.ValueLaws.{fresh-state, erase-back, refusal-leaves}
use Rattle.board.proofs.RefusalLaws.{Refused, unchanged, emptied, call-refused, step-refused}

changes : (n : ℕ) → 2 ≤ n → n ≤ 8 → changes_nothing n ≡ true → ⊥
unfolding changes_nothing
changes n low high e =
    let f : changes_nothing n ≡ false = rw (ne_eqb n 1 (λ z. omega arith), lt-leb 9 n (omega arith)) in
    let z : ◌≡◌ {A = ℕ} 0 1 = cc in omega arith

-- ---- one event while an erase is pending

-- the fresh value, at place n + 1
abbrev pub pending_board : Identity → ℕ → Bool → Board
pending_board i n owed = fresh_board i (Erase.Pending (suc n) owed)

-- the erase is still pending, or has ended, and the value is a fresh one
pub data Next (i : Identity) (n : ℕ) (owed : Bool) (m : List ℕ) (e : Event Call) : Type 0 where
  continues : (n' : ℕ) (owed' : Bool) → value_after i (pending_board i n owed) m e ≡ pending_board i n' owed'
      → Pending board_kind i n' (store_after i (pending_board i n owed) m e) → ((es : Events) → ends n (e ∷ es) ≡ ends n' es) → Next i n owed m e
  ended : value_after i (pending_board i n owed) m e ≡ fresh_board i Erase.Idle → ((es : Events) → ends n (e ∷ es) ≡ is_last es) → Next i n owed m e

pending-shown : (i : Identity) (n : ℕ) (owed : Bool) → state_of (pending_board i n owed) ≡ erasing board_kind i (suc n) owed
unfolding erasing
pending-shown i n owed = fresh-state i (Erase.Pending (suc n) owed)

refusal-number : (short : Bool) → changes_nothing (cond short 10 9) ≡ true
unfolding changes_nothing
refusal-number true = refl
refusal-number false = refl

module _ (i : Identity) (n : ℕ) (owed : Bool) (m : List ℕ) (h : Pending board_kind i n m) where
  call_next : (c : Call) (lent : List ℕ) → Next i n owed m (call c lent)
  unfolding value_after store_after ends refuse
  call_next c lent =
      let k : ℕ = cond (lends c && is_short lent) 10 9 in
      let q : on_call board_kind c (state_of (pending_board i n owed)) m lent ≡ refuse board_kind k (erasing board_kind i (suc n) owed) lent
      = rw (pending-shown i n owed) (pending_call board-laws c owed lent h) in
      continues n owed
      (rw q (refusal-leaves c (pending_board i n owed) k (erasing board_kind i (suc n) owed) lent (refusal-number (lends c && is_short lent))))
      (rw q h) (λ es. refl)

  cut-next : Next i n owed m cut
  unfolding value_after store_after ends erasing
  cut-next =
      continues 0 false (ap start_leaves (pending_start h))
      (subst (λ (r : Started BoardState). Pending board_kind i 0 (store_started r m)) (sym (pending_start h)) (pending_again h)) (λ es. refl)

  step-next : (lent : List ℕ) → Next i n owed m (step lent)
  unfolding value_after store_after ends refuse clear_step end_step erasing at_rest wiped
  step-next lent =
      pending_step board-laws (λ o. on_step board_kind (state_of (pending_board i n owed)) m lent ≡ o → Next i n owed m (step lent)) owed lent h
      (λ t q. continues n owed (rw q) (rw q h) (λ es. rw t))
      (λ t u q. continues (suc n) owed (rw q) (rw q (pending_next board-laws h (ltb-true n 127 u))) (λ es. rw (t, u)))
      (λ t u q. ended (rw q) (λ es. rw (t, u)))
      (ap (λ (s : BoardState). on_step board_kind s m lent) (pending-shown i n owed))

  pub next_of : (e : Event Call) → Next i n owed m e
  next_of (call c lent) = call_next c lent
  next_of (step lent) = step-next lent
  next_of cut = cut-next

-- ---- lists

-- after the last step nothing more comes
nothing-more : (i : Identity) (b : Board) (m : List ℕ) (es : Events) → is_last es ≡ true → value_after_all i b m es ≡ b
unfolding value_after_all is_last
nothing-more i b m [] e = refl
nothing-more i b m (x ∷ es) e = cc

pub pending-erased : (es : Events) (i : Identity) (n : ℕ) (owed : Bool) (m : List ℕ) → Pending board_kind i n m → ends n es ≡ true
    → value_after_all i (pending_board i n owed) m es ≡ fresh_board i Erase.Idle
unfolding value_after_all ends
pending-erased [] i n owed m h e = cc
pending-erased (x ∷ es) i n owed m h e = go (next_of i n owed m h x) (λ n' owed' k. pending-erased es i n' owed' k)
  where
    m' : List ℕ
    m' = store_after i (pending_board i n owed) m x

    go : Next i n owed m x
        → ((n' : ℕ) (owed' : Bool) (k : List ℕ) → Pending board_kind i n' k → ends n' es ≡ true → value_after_all i (pending_board i n' owed') k es ≡ fresh_board i Erase.Idle)
        → value_after_all i (value_after i (pending_board i n owed) m x) m' es ≡ fresh_board i Erase.Idle
    go (continues n' owed' v p f) rest = rw v (rest n' owed' m' p (sym (f es) ∙ e))
    go (ended v f) rest = rw v (nothing-more i (fresh_board i Erase.Idle) m' es (sym (f es) ∙ e))

-- a gap begins no erase
gap-begins_none : (s : BoardState) (m lent : List ℕ) → (on_call board_kind gap s m lent).answer ≡ begun → ⊥
unfolding refuse kind.does
gap-begins_none s m lent a = go (called board_kind gap s m lent)
  where
    refused-begins : (n : ℕ) → ◌≡◌ {A = Answer ℕ} (refused n) begun → ⊥
    refused-begins n e = let z : ◌≡◌ {A = ℕ} 0 1 = cc in omega arith

    waiting-begins : ◌≡◌ {A = Answer ℕ} waiting begun → ⊥
    waiting-begins e = let z : ◌≡◌ {A = ℕ} 0 1 = cc in omega arith

    go : Called board_kind gap s m lent (on_call board_kind gap s m lent) → ⊥
    go (refuses n e) = refused-begins n (ap (λ (o : BoardOutcome). o.answer) (sym e) ∙ a)
    go (does q h e) = waiting-begins (ap (λ (o : BoardOutcome). o.answer) (sym e) ∙ a)

-- a start on an unused board's bytes gives the fresh value
pub unused-fresh : (i : Identity) → is_identity i ≡ true → start_leaves (on_start board_kind i unused_store) ≡ fresh_board i Erase.Idle
unfolding at_rest
unused-fresh i named = ap start_leaves (rest-start board-laws (unused-startable board-laws named))

-- what an accepted erase leaves
module _ (b : Board) (m : List ℕ) (c : Call) (lent : List ℕ) (a : (on_call board_kind c (state_of b) m lent).answer ≡ begun) where
  abbrev acceptance : Acceptance board_kind
  acceptance = record { given = c; state = state_of b; store = m; lent = lent; accepts = a }

  abbrev owes : Bool
  owes = board_kind.owes c (state_of b)

  pub accepted-pending : Pending board_kind (state_of b).ident 0 (store_after (state_of b).ident b m (call c lent))
  unfolding store_after left
  accepted-pending = let x = accepts board-laws acceptance in begins-pending x.fits x.begins

  pub accepted-fresh : value_after (state_of b).ident b m (call c lent) ≡ pending_board (state_of b).ident 0 owes
  unfolding value_after erasing left
  accepted-fresh = made c a (accepts board-laws acceptance).begins.state_is
    where
      made : (c : Call) → (on_call board_kind c (state_of b) m lent).answer ≡ begun
          → (on_call board_kind c (state_of b) m lent).state ≡ erasing board_kind (state_of b).ident 1 (board_kind.owes c (state_of b))
          → call_leaves c b (on_call board_kind c (state_of b) m lent) ≡ pending_board (state_of b).ident 0 (board_kind.owes c (state_of b))
      made gap e s = absurd (gap-begins_none (state_of b) m lent e)
      made (byte x) e s = rw (e, s)

  erased-fresh : (es : Events) → ends 0 es ≡ true → value_after_all (state_of b).ident b m (call c lent ∷ es) ≡ fresh_board (state_of b).ident Erase.Idle
  unfolding value_after_all
  erased-fresh es e = rw accepted-fresh (pending-erased es (state_of b).ident 0 owes _ accepted-pending e)

  -- at the 128th step nothing of the past is left: the value is what a start gives on an unused board's bytes
  pub past_erased : (es : Events) → ends 0 es ≡ true
      → value_after_all (state_of b).ident b m (call c lent ∷ es) ≡ start_leaves (on_start board_kind (state_of b).ident unused_store)
  past_erased es e = erased-fresh es e ∙ sym (unused-fresh (state_of b).ident accepted-pending.named)

-- ---- refusals that change nothing

pub refused-call_value : (c : Call) (b : Board) (m lent : List ℕ) (n : ℕ) → (on_call board_kind c (state_of b) m lent).answer ≡ refused n
    → changes_nothing n ≡ true → value_after (state_of b).ident b m (call c lent) ≡ b
unfolding value_after
refused-call_value c b m lent n a k = go (call-refused c (state_of b) m lent n a)
  where
    go : Refused (state_of b) lent n (on_call board_kind c (state_of b) m lent) → call_leaves c b (on_call board_kind c (state_of b) m lent) ≡ b
    go (unchanged h e) = rw e (refusal-leaves c b n (state_of b) lent k)
    go (emptied low high e) = absurd (changes n low high k)

pub refused-step_value : (b : Board) (m lent : List ℕ) (n : ℕ) → (on_step board_kind (state_of b) m lent).answer ≡ refused n
    → value_after (state_of b).ident b m (step lent) ≡ b
unfolding value_after refuse
refused-step_value b m lent n a = rw ((step-refused (state_of b) m lent n a).1, erase-back b.erase)
