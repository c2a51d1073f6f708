-- Of every kind of board: a refusal by the checks changes nothing, and past them a call is the kind's own and a step stores one byte.
use mathlib.Core.Path.{◌≡◌, refl, ap}
use mathlib.Core.Bool.{Bool, true, false, ◌&&◌}
use mathlib.Core.List.{List, []}
use Prim.Native.Nat.{ℕ}
use lib.ListN.{length}
use Rattle.wire.proofs.Tests.{cond-by}
use Rattle.calls.specs.Board.{Erase, idle, pending, is_pending, place_of, owed_of}
use Rattle.calls.specs.Kind.{Kind}
use Rattle.calls.specs.Calls.{is_short, clears_at, EntryCheck, refused_entry, nonePendingEntry, pendingEntry, entry_check, Board, Left, refuse, is_sound, entry_check_of, call_on, on_call, clear_step, end_step, erase_step, step_on, on_step}

-- the checks in their order, and the refusal by each
pub record Refusals (K : Kind) : Type 0 where
  -- a call with a lent buffer below 64 bytes
  pub short_call : (c : K.Call) (s : Board K) (m lent : List ℕ) → K.lends c && is_short lent ≡ true → on_call K c s m lent ≡ refuse K 10 s lent
  -- a call on a board that is not sound
  pub unsound_call : (c : K.Call) (s : Board K) (m lent : List ℕ) → K.lends c && is_short lent ≡ false → is_sound K s m ≡ false
      → on_call K c s m lent ≡ refuse K 12 s lent
  -- a call while an erase is pending
  pub pending_call : (c : K.Call) (s : Board K) (m lent : List ℕ) (p : ℕ) (owed : K.Owed) → K.lends c && is_short lent ≡ false → is_sound K s m ≡ true
      → s.erase ≡ pending p owed → on_call K c s m lent ≡ refuse K 9 s lent
  -- a step with a lent buffer below 64 bytes
  pub short_step : (s : Board K) (m lent : List ℕ) → is_short lent ≡ true → on_step K s m lent ≡ refuse K 10 s lent
  -- a step on a board that is not sound
  pub unsound_step : (s : Board K) (m lent : List ℕ) → is_short lent ≡ false → is_sound K s m ≡ false → on_step K s m lent ≡ refuse K 12 s lent
  -- a step with no erase pending
  pub idle_step : (s : Board K) (m lent : List ℕ) → is_short lent ≡ false → is_sound K s m ≡ true → s.erase ≡ idle
      → on_step K s m lent ≡ refuse K 13 s lent

-- a call is refused, or it is what the kind does to a sound board with no erase pending
pub data Called (K : Kind) (c : K.Call) (s : Board K) (m lent : List ℕ) (o : Left K) : Type 0 where
  refuses : (n : ℕ) → o ≡ refuse K n s lent → Called K c s m lent o
  does : s.erase ≡ idle → is_sound K s m ≡ true → o ≡ K.does c s m lent → Called K c s m lent o

-- a step is refused, or it is the step of a pending erase on a sound board
pub data Stepped (K : Kind) (s : Board K) (m lent : List ℕ) (o : Left K) : Type 0 where
  refuses : (n : ℕ) → o ≡ refuse K n s lent → Stepped K s m lent o
  clears : (p : ℕ) (owed : K.Owed) → s.erase ≡ pending p owed → is_sound K s m ≡ true → o ≡ erase_step K p owed s lent → Stepped K s m lent o

-- what a call that goes on has passed
pub record Passed (short sound erasePending wanted : Bool) : Type 0 where
  pub long : short ≡ false
  pub is_sound_law : sound ≡ true
  pub phase : erasePending ≡ wanted

-- whether an erase is pending, as an entry tells it
abbrev Tells : EntryCheck → (short sound erasePending : Bool) → Type 0
Tells (refused_entry n) short sound erasePending = Unit {0}
Tells nonePendingEntry short sound erasePending = Passed short sound erasePending false
Tells pendingEntry short sound erasePending = Passed short sound erasePending true

entry-tells : (short sound erasePending : Bool) → Tells (entry_check short sound erasePending) short sound erasePending
unfolding entry_check
entry-tells true sound erasePending = tt
entry-tells false false erasePending = tt
entry-tells false true false = record { long = refl; is_sound_law = refl; phase = refl }
entry-tells false true true = record { long = refl; is_sound_law = refl; phase = refl }

pub idle-passed : (short sound erasePending : Bool) → entry_check short sound erasePending ≡ nonePendingEntry → Passed short sound erasePending false
idle-passed short sound erasePending e = rw e at (entry-tells short sound erasePending)

pub pending-passed : (short sound erasePending : Bool) → entry_check short sound erasePending ≡ pendingEntry → Passed short sound erasePending true
pending-passed short sound erasePending e = rw e at (entry-tells short sound erasePending)

module _ (K : Kind) where
  -- a step clears the byte at its place, or is the last
  pub step-clears_or_ends : (P : Left K → Type 0) (p : ℕ) (owed : K.Owed) (s : Board K) (lent : List ℕ)
      → (clears_at p ≡ true → P (clear_step K p owed s lent)) → (clears_at p ≡ false → P (end_step K owed s lent))
      → P (erase_step K p owed s lent)
  unfolding erase_step
  step-clears_or_ends P p owed s lent = cond-by P (clears_at p) (clear_step K p owed s lent) (end_step K owed s lent)

  -- ---- the checks

  pub refusal-changes_nothing : Refusals K
  unfolding on_call on_step call_on step_on entry_check_of entry_check
  refusal-changes_nothing =
      record {
        short_call = λ c s m lent t. simp t;
        unsound_call = λ c s m lent t h. simp (t, h);
        pending_call = λ c s m lent p owed t h q. simp (t, h, ap is_pending q);
        short_step = λ s m lent t. simp t;
        unsound_step = λ s m lent t h. simp (t, h);
        idle_step = λ s m lent t h q. simp (t, h, ap is_pending q);
      }

  pub called : (c : K.Call) (s : Board K) (m lent : List ℕ) → Called K c s m lent (on_call K c s m lent)
  unfolding on_call call_on entry_check_of entry_check
  called c s m lent = go (K.lends c && is_short lent) (is_sound K s m) s.erase refl refl
    where
      go : (short sound : Bool) (e : Erase K.Owed) → is_sound K s m ≡ sound → s.erase ≡ e
          → Called K c s m lent (call_on K (entry_check short sound (is_pending e)) c s m lent)
      go true sound e h q = refuses 10 refl
      go false false e h q = refuses 12 refl
      go false true idle h q = does q h refl
      go false true (pending p owed) h q = refuses 9 refl

  pub stepped : (s : Board K) (m lent : List ℕ) → Stepped K s m lent (on_step K s m lent)
  unfolding on_step step_on entry_check_of entry_check
  stepped s m lent = go (is_short lent) (is_sound K s m) s.erase refl refl
    where
      go : (short sound : Bool) (e : Erase K.Owed) → is_sound K s m ≡ sound → s.erase ≡ e
          → Stepped K s m lent (step_on K (entry_check short sound (is_pending e)) s lent)
      go true sound e h q = refuses 10 refl
      go false false e h q = refuses 12 refl
      go false true idle h q = refuses 13 refl
      go false true (pending p owed) h q =
          clears p owed q h (ap (λ (e : Erase K.Owed). erase_step K (place_of e) (owed_of K.none_owed e) s lent) q)

  -- ---- how much is stored

  refusal_stores_none : (n : ℕ) (s : Board K) (lent : List ℕ) → (refuse K n s lent).stores ≡ []
  unfolding refuse
  refusal_stores_none n s lent = refl

  clearing_stores_one : (p : ℕ) (owed : K.Owed) (s : Board K) (lent : List ℕ) → length (erase_step K p owed s lent).stores ≡ 1
  unfolding clear_step end_step
  clearing_stores_one p owed s lent = step-clears_or_ends (λ o. length o.stores ≡ 1) p owed s lent (λ t. refl) (λ t. refl)

  -- while an erase is pending a call stores nothing
  pub pending_call_stores_none : (c : K.Call) (s : Board K) (m lent : List ℕ) (p : ℕ) (owed : K.Owed) → s.erase ≡ pending p owed
      → (on_call K c s m lent).stores ≡ []
  pending_call_stores_none c s m lent p owed q = go (called c s m lent)
    where
      go : Called K c s m lent (on_call K c s m lent) → (on_call K c s m lent).stores ≡ []
      go (refuses n e) = rw (e, refusal_stores_none)
      go (does r h e) = cc

  -- and a step that is not refused stores one byte
  pub pending_step_stores_one : (s : Board K) (m lent : List ℕ) (p : ℕ) (owed : K.Owed) → is_short lent ≡ false → is_sound K s m ≡ true
      → s.erase ≡ pending p owed → length (on_step K s m lent).stores ≡ 1
  unfolding on_step step_on entry_check_of entry_check
  pending_step_stores_one s m lent p owed t h q =
      simp (t, h, ap is_pending q) (clearing_stores_one (place_of s.erase) (owed_of K.none_owed s.erase) s lent)
