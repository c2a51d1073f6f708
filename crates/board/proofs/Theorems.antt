-- What holds of every call and step on this board, sound or not: few bytes are stored, and a reply's length is its packet's.
use mathlib.Core.Path.{◌≡◌, ap, ◌∙◌, subst}
use mathlib.Core.Bool.{Bool, true, false}
use mathlib.Core.List.{List, []}
use Prim.Native.Nat.{ℕ, ◌≤◌}
use lib.ListN.{length}
use Rattle.plan.specs.Plans.{stores_of}
use Rattle.calls.specs.Board.{Answer, refused, reply, pending}
use Rattle.calls.specs.Calls.{is_short, is_sound, on_call, on_step}
use Rattle.calls.proofs.Steps.{pending_call_stores_none, pending_step_stores_one}
use Rattle.packets.specs.Packets.{BoardState, BoardOutcome}
use Rattle.board.specs.BoardKind.{Call, board_kind}
use Rattle.board.specs.View.{state_of, Plans}
use Rattle.board.specs.Values.{call_leaves, step_leaves}
use Rattle.board.specs.declared.board.Board.{Board}
use Rattle.board.specs.declared.board.Planned.{Planned}
use Rattle.board.proofs.Demand1.{refusal_keeps, nothing_stepped}
use Rattle.board.proofs.Bounds.{Replied, Sends, call-bounded, step-bounded}

-- ---- how much is stored

-- the supply holds up for 40 stores
pub stores-few : (c : Call) (s : BoardState) (m lent : List ℕ) → length (on_call board_kind c s m lent).stores ≤ 40
stores-few c s m lent = (call-bounded c s m lent).ready.few

pub pending-stores_none : (c : Call) (s : BoardState) (m lent : List ℕ) (p : ℕ) (owed : Bool) → s.erase ≡ pending p owed → (on_call board_kind c s m lent).stores ≡ []
pending-stores_none = pending_call_stores_none board_kind

-- ---- the plans that the code hands back

module _ (p : Planned) (b : Board) (m lent lent' : List ℕ) where
  planned_stores : (leaves : BoardOutcome → Board) (o : BoardOutcome) → Plans p lent' leaves o → stores_of p.plan ≡ o.stores
  planned_stores leaves o h = ap (λ (x : BoardOutcome). x.stores) h.outcome

  module _ (c : Call) (h : Plans p lent' (call_leaves c b) (on_call board_kind c (state_of b) m lent)) where
    pub call-plan_few : length (stores_of p.plan) ≤ 40
    call-plan_few = rw (planned_stores _ _ h) (stores-few c (state_of b) m lent)

    pub refused-call_plan_none : (n : ℕ) → (on_call board_kind c (state_of b) m lent).answer ≡ refused n → stores_of p.plan ≡ []
    refused-call_plan_none n e = planned_stores _ _ h ∙ (refusal_keeps c (state_of b) m lent n e).stores

    pub pending-call_plan_none : (place : ℕ) (owed : Bool) → (state_of b).erase ≡ pending place owed → stores_of p.plan ≡ []
    pending-call_plan_none place owed q = planned_stores _ _ h ∙ pending-stores_none c (state_of b) m lent place owed q

  module _ (h : Plans p lent' (step_leaves b) (on_step board_kind (state_of b) m lent)) where
    pub step-plan_one : (place : ℕ) (owed : Bool) → is_short lent ≡ false → is_sound board_kind (state_of b) m ≡ true → (state_of b).erase ≡ pending place owed
        → length (stores_of p.plan) ≡ 1
    step-plan_one place owed long sound q = rw (planned_stores _ _ h) (pending_step_stores_one board_kind (state_of b) m lent place owed long sound q)

    pub refused-step_plan_none : (n : ℕ) → (on_step board_kind (state_of b) m lent).answer ≡ refused n → stores_of p.plan ≡ []
    refused-step_plan_none n e = planned_stores _ _ h ∙ (nothing_stepped (state_of b) m lent n e).untouched.stores

-- ---- a reply's length is not invented: it is that of a packet of L + 9 bytes at the start of the lent buffer

pub call-reply : (c : Call) (s : BoardState) (m lent : List ℕ) (n : ℕ) → (on_call board_kind c s m lent).answer ≡ reply n
    → Replied lent n (on_call board_kind c s m lent).buffer
call-reply c s m lent n e = subst (λ (a : Answer ℕ). Sends lent a (on_call board_kind c s m lent).buffer) e (call-bounded c s m lent).sends

pub step-reply : (s : BoardState) (m lent : List ℕ) (n : ℕ) → (on_step board_kind s m lent).answer ≡ reply n → Replied lent n (on_step board_kind s m lent).buffer
step-reply s m lent n e = subst (λ (a : Answer ℕ). Sends lent a (on_step board_kind s m lent).buffer) e (step-bounded s m lent).sends
