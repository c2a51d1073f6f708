-- Lists of calls and power cuts (docs/RULES.md, 'Demand 3'), and what is seen of them.
use Rattle.std.specs.Prelude.{Bool, true, false, cond, List, [], ◌∷◌, ◌≡◌, ℕ, suc, ltb}
use Rattle.plan.specs.Stores.{applied}
use Rattle.calls.specs.Board.{Identity, Answer, begun, Started, board, start_refused, after}
use Rattle.calls.specs.Kind.{Kind}
use Rattle.calls.specs.Calls.{is_short, Board, Left, on_call, on_step, on_start}

-- a call with its lent buffer, a step with its lent buffer, a power cut with the start after it
pub data Event (Call : Type 0) : Type 0 where
  call : Call → List ℕ → Event Call
  step : List ℕ → Event Call
  cut : Event Call

-- what is seen of an event: answer, lent buffer and store; a start's store; or a refused start
pub data Seen (Sent : Type 0) : Type 0 where
  answered : Answer Sent → List ℕ → List ℕ → Seen Sent
  started : List ℕ → Seen Sent
  unstarted : ℕ → Seen Sent

-- no start is refused
unfoldable pub AllStarted : {Sent : Type 0} → List (Seen Sent) → Type 0
AllStarted [] = Unit {0}
AllStarted (answered a lent m ∷ os) = AllStarted os
AllStarted (started m ∷ os) = AllStarted os
AllStarted (unstarted n ∷ os) = ⊥

unfoldable pub is_last : {C : Type 0} → List (Event C) → Bool
is_last [] = true
is_last (e ∷ es) = false

-- the list ends with the 128th step, n having run before it since the acceptance or the latest start
unfoldable pub ends : {C : Type 0} → ℕ → List (Event C) → Bool
ends n [] = false
ends n (call c lent ∷ es) = ends n es
ends n (cut ∷ es) = ends 0 es
ends n (step lent ∷ es) = cond (is_short lent) (ends n es) (cond (ltb n 127) (ends (suc n) es) (is_last es))

module _ (K : Kind) where
  abbrev pub Events : Type 0
  Events = List (Event K.Call)

  abbrev pub Trace : Type 0
  Trace = List (Seen K.Sent)

  -- what is seen of a call on a store
  unfoldable pub seen : Left K → List ℕ → Seen K.Sent
  seen o m = answered o.answer o.buffer (after o m)

  -- after a refused start there is no board, and no more to see
  unfoldable pub from : Started (Board K) → List ℕ → (Board K → List ℕ → Trace) → Trace
  from (board s es) m k = k s (applied es m)
  from (start_refused n) m k = unstarted n ∷ []

  -- each call gets the board and the store that the last one left, and each start the store and the identity
  unfoldable pub run : Identity → Board K → List ℕ → Events → Trace
  run i s m [] = []
  run i s m (call c lent ∷ es) =
      seen (on_call K c s m lent) m ∷ run i (on_call K c s m lent).state (after (on_call K c s m lent) m) es
  run i s m (step lent ∷ es) = seen (on_step K s m lent) m ∷ run i (on_step K s m lent).state (after (on_step K s m lent) m) es
  run i s m (cut ∷ es) = from (on_start K i m) m (λ s' m'. started m' ∷ run i s' m' es)

  -- a board with any past, and a call that answers erase begun
  pub record Acceptance : Type 0 where
    pub given : K.Call
    pub state : Board K
    pub store : List ℕ
    pub lent : List ℕ
    pub accepts : (on_call K given state store lent).answer ≡ begun

  unfoldable pub left : Acceptance → Left K
  left a = on_call K a.given a.state a.store a.lent

  unfoldable pub identity : Acceptance → Identity
  identity a = a.state.ident

  unfoldable pub trace_after : Acceptance → Events → Trace
  trace_after a es = run (identity a) (left a).state (after (left a) a.store) es
