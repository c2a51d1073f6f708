-- Demand 3 of a kind of board. A board's own demand 3, with its numbers written out, follows from it.
use mathlib.Core.Bool.{cond, true, ◌&&◌}
use mathlib.Core.List.{List, [], ◌∷◌, ◌++◌}
use mathlib.Core.Path.{◌≡◌}
use Prim.Native.Nat.{ℕ, suc}
use lib.Dec.{ltb}
use lib.ListN.{length, set, drop, get_or}
use Rattle.calls.specs.Board.{Identity, more, refused, after}
use Rattle.calls.specs.Kind.{Kind}
use Rattle.calls.specs.Calls.{is_short, on_start}
use Rattle.calls.specs.Lists.{call, step, cut, answered, started, AllStarted, ends, Events, Trace, from, run, Acceptance, left, identity, trace_after}

module _ (K : Kind) where
  -- the unused board: what a start gives on an unused board's bytes
  unfoldable pub run_unused : Identity → Events K → Trace K
  run_unused i es = from K (on_start K i K.unused) K.unused (λ s m. run K i s m es)

  -- the store with the unused value at a place
  unfoldable pub wiped : List ℕ → ℕ → List ℕ
  wiped m p = set m p (get_or K.unused p 0)

  -- what must be seen of a list that follows an acceptance; n steps have run since it or since the latest start
  unfoldable pub expected : Identity → K.Owed → ℕ → List ℕ → Events K → Trace K
  expected i owed n m [] = []
  expected i owed n m (call c lent ∷ es) = answered (refused (cond (K.lends c && is_short lent) 10 9)) lent m ∷ expected i owed n m es
  expected i owed n m (cut ∷ es) = started m ∷ expected i K.none_owed 0 m es
  expected i owed n m (step lent ∷ es) =
      cond (is_short lent)
      (answered (refused 10) lent m ∷ expected i owed n m es)
      (cond (ltb n 127)
      (answered more lent (wiped m (suc n)) ∷ expected i owed (suc n) (wiped m (suc n)) es)
      (answered (K.last_answer i owed) (K.last_buffer i owed lent) K.unused ∷ run_unused i es))

  -- of every acceptance and every list after it
  pub record Erases : Type 0 where
    -- the acceptance stores E7h in byte 0 and nothing else, and leaves the buffer alone
    pub stored : (a : Acceptance K) → after (left K a) a.store ≡ set a.store 0 0xE7
    pub untouched : (a : Acceptance K) → (left K a).buffer ≡ a.lent
    pub traced : (a : Acceptance K) (es : Events K) → trace_after K a es ≡ expected (identity K a) (K.owes a.given a.state) 0 (after (left K a) a.store) es
    pub startable : (a : Acceptance K) (es : Events K) → AllStarted (trace_after K a es)
    pub alike : (a₁ a₂ : Acceptance K) → identity K a₁ ≡ identity K a₂
        → (es₁ es₂ : Events K) → ends 0 es₁ ≡ true → ends 0 es₂ ≡ true
        → (fs : Events K) → drop (length es₁) (trace_after K a₁ (es₁ ++ fs)) ≡ drop (length es₂) (trace_after K a₂ (es₂ ++ fs))
