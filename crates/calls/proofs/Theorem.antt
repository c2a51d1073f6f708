-- Demand 3 of every kind of board that keeps the laws: what is seen after an acceptance follows the erase event by event.
use mathlib.Core.Path.{◌≡◌, refl, ap, sym, ◌∙◌}
use mathlib.Core.Bool.{true}
use mathlib.Core.List.{List, [], ◌∷◌, ◌++◌}
use mathlib.Core.Logic.{◌⊎◌, inl, inr, ◌≢◌}
use Prim.Native.Nat.{ℕ, suc}
use native.Mathlib.Omega.{arith}
use lib.ListN.{length, drop}
use lib.Dec.{ltb}
use borrow.Author.Tests.{ltb-true, ltb-false}
use Rattle.plan.specs.Stores.{Entry, applied}
use Rattle.calls.specs.Board.{Identity, begun, after}
use Rattle.calls.specs.Kind.{Kind}
use Rattle.calls.specs.Calls.{is_short, Board, Left, refuse, at_rest, erasing, is_sound, clear_step, end_step, on_call}
use Rattle.calls.specs.Lists.{call, step, cut, AllStarted, is_last, ends, Events, Trace, seen, from, run, Acceptance, left, identity, trace_after}
use Rattle.calls.proofs.Demand.{run_unused, wiped, expected, Erases}
use Rattle.wire.proofs.Tests.{cond-by}
use Rattle.calls.proofs.Steps.{Called, refuses, does, called}
use Rattle.calls.proofs.Laws.{Startable, Settles, Begins, Laws}
use Rattle.calls.proofs.Pending.{Pending, pending_again, pending_next, pending_last, pending_call, pending_step, pending_start}
use Rattle.calls.proofs.Kept.{Starts, sound-view, idle-startable, unused-startable, begins-pending, act_keeps, call-keeps, step_keeps, rest-start, start_sound}

module _ {K : Kind} (L : Laws K) where
  -- ---- what is seen while an erase is pending

  -- a call or a step, and all that follows
  abbrev seen_from : Identity → List ℕ → Events K → Left K → Trace K
  seen_from i m es o = seen K o m ∷ run K i o.state (after o m) es

  unused-run : {i : Identity} (es : Events K) → K.is_identity i ≡ true → run K i (at_rest K i) K.unused es ≡ run_unused K i es
  unfolding run_unused from
  unused-run es h = rw (rest-start L (unused-startable L h))

  pending-run : {i : Identity} {n : ℕ} {m : List ℕ} (es : Events K) (owed : K.Owed) → Pending K i n m
      → run K i (erasing K i (suc n) owed) m es ≡ expected K i owed n m es
  unfolding run expected refuse clear_step end_step erasing at_rest seen from wiped
  pending-run [] owed h = refl
  pending-run (call c lent ∷ es) owed h = rw (pending_call L c owed lent h, pending-run es owed h)
  pending-run {i} {n} {m} (cut ∷ es) owed h = rw (pending_start h, pending-run es K.none_owed (pending_again h))
  pending-run {i} {n} {m} (step lent ∷ es) owed h =
      pending_step L (λ o. seen_from i m es o ≡ expected K i owed n m (step lent ∷ es)) owed lent h
      (λ t. simp (t, pending-run es owed h))
      (λ t u. simp (t, u, pending-run {n = suc n} es owed (pending_next L h (ltb-true n 127 u))))
      (λ t u. simp (t, u, pending_last L h (ltb-false n 127 u), unused-run es h.named))

  -- ---- what is seen after the 128th step

  last-run : (i : Identity) (es fs : Events K) → is_last es ≡ true → drop (length es) (run_unused K i (es ++ fs)) ≡ run_unused K i fs
  unfolding is_last
  last-run i [] fs h = refl
  last-run i (e ∷ es) fs h = cc

  ended_run : (i : Identity) (es fs : Events K) (n : ℕ) (m : List ℕ) (owed : K.Owed) → ends n es ≡ true
      → drop (length es) (expected K i owed n m (es ++ fs)) ≡ run_unused K i fs
  unfolding expected ends
  ended_run i [] fs n m owed h = cc
  ended_run i (call c lent ∷ es) fs n m owed h = ended_run i es fs n m owed h
  ended_run i (cut ∷ es) fs n m owed h = ended_run i es fs 0 m K.none_owed h
  ended_run i (step lent ∷ es) fs n m owed h =
      cond-by rests (is_short lent) _ _ (λ t. ended_run i es fs n m owed (simp t at h))
      (λ t. cond-by rests (ltb n 127) _ _ (λ u. ended_run i es fs (suc n) (wiped K m (suc n)) owed (simp (t, u) at h)) (λ u. last-run i es fs (simp (t, u) at h)))
    where
      rests : Trace K → Type 0
      rests os = drop (suc (length es)) os ≡ run_unused K i fs

  -- ---- no start is refused

  all-started : (i : Identity) (es : Events K) (s : Board K) (m : List ℕ) → K.is_identity i ≡ true → is_sound K s m ≡ true → AllStarted (run K i s m es)
  unfolding run AllStarted seen from
  all-started i [] s m k h = tt
  all-started i (call c lent ∷ es) s m k h = all-started i es _ _ k (call-keeps L c s m lent h)
  all-started i (step lent ∷ es) s m k h = all-started i es _ _ k (step_keeps L s m lent h)
  all-started i (cut ∷ es) s m k h =
      let a : Starts K i m = start_sound L i s m k h in
      rw a.gives (all-started i es a.state m k a.then_sound)

  -- ---- the acceptance

  refusal-not_begun : (n : ℕ) (s : Board K) (lent : List ℕ) → (refuse K n s lent).answer ≢ begun
  unfolding refuse
  refusal-not_begun n s lent e = let z : ◌≡◌ {A = ℕ} 0 1 = cc in omega arith

  -- what answers erase begun begins an erase, on a store in range
  pub record Accepts (a : Acceptance K) : Type 0 where
    pub begins : Begins K a.given a.state a.lent (left K a)
    pub fits : Startable K a.state.ident a.store

  pub accepts : (a : Acceptance K) → Accepts a
  unfolding left
  accepts a = go (called K a.given a.state a.store a.lent)
    where
      o : Left K
      o = on_call K a.given a.state a.store a.lent

      acted : Settles K a.store o ⊎ Begins K a.given a.state a.lent o → Begins K a.given a.state a.lent o
      acted (inl x) = absurd (x.not_begun a.accepts)
      acted (inr b) = b

      go : Called K a.given a.state a.store a.lent o → Accepts a
      go (refuses n e) = absurd (refusal-not_begun n a.state a.lent (ap (λ (x : Left K). x.answer) (sym e) ∙ a.accepts))
      go (does q h e) =
          record {
            begins = acted (rw e (L.acts a.given a.state a.store a.lent q h));
            fits = idle-startable q (sound-view L a.state a.store h);
          }

  traced : (a : Acceptance K) (es : Events K)
      → trace_after K a es ≡ expected K (identity K a) (K.owes a.given a.state) 0 (after (left K a) a.store) es
  unfolding trace_after identity
  traced a es =
      let x : Accepts a = accepts a in
      rw x.begins.state_is (pending-run es (K.owes a.given a.state) (begins-pending x.fits x.begins))

  startable : (a : Acceptance K) (es : Events K) → AllStarted (trace_after K a es)
  unfolding trace_after identity left
  startable a es =
      let x : Accepts a = accepts a in
      all-started a.state.ident es _ _ x.fits.named (act_keeps L x.fits (inr x.begins))

  ended : (a : Acceptance K) (es fs : Events K) → ends 0 es ≡ true → drop (length es) (trace_after K a (es ++ fs)) ≡ run_unused K (identity K a) fs
  ended a es fs h = rw (traced a (es ++ fs)) (ended_run (identity K a) es fs 0 _ _ h)

pub erases : (K : Kind) → Laws K → Erases K
erases K L =
    record {
      stored = λ a. ap (λ (es : List Entry). applied es a.store) (accepts L a).begins.stores_is;
      untouched = λ a. (accepts L a).begins.buffer_is;
      traced = traced L;
      startable = startable L;
      alike = λ a₁ a₂ q es₁ es₂ h₁ h₂ fs. ended L a₁ es₁ fs h₁ ∙ ap (λ (i : Identity). run_unused K i fs) q ∙ sym (ended L a₂ es₂ fs h₂);
    }
