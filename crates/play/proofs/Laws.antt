-- Laws of a run's parts: what is written at the start of a list, what a call, a gap and a start show, and what is entered of it.
use mathlib.Core.Bool.{false}
use mathlib.Core.List.{List, [], ◌∷◌, ◌++◌, append_assoc}
use mathlib.Core.Option.{some-ne-none}
use mathlib.Core.Path.{◌≡◌, refl, sym, ap, ◌∙◌}
use Prim.Native.Nat.{ℕ, ◌+◌, ◌≤◌, ◌<◌, min}
use native.Mathlib.Omega.{arith}
use borrow.Author.Tests.{le-ltb, lt-ltb, ltb-true, ltb-false, ne_eqb}
use lib.Dec.{ltb}
use lib.ListN.{length, set, drop, length-append}
use lib.Seq.{drop-drop, drop_at}
use Rattle.wire.specs.Packet.{over}
use Rattle.wire.proofs.Tests.{cond-by}
use Rattle.wire.specs.Refusal.{number_of}
use Rattle.std.specs.Prelude.{Result as Returned, Ok, Err}
use Rattle.calls.specs.Board as calls
use Rattle.calls.specs.Board.{Identity, after}
use Rattle.calls.specs.Calls.{EntryCheck, refused_entry, nonePendingEntry, pendingEntry, refuse, entry_check_of, call_on, on_call, on_step, on_start}
use Rattle.calls.specs.Lists.{Event, call, step, cut, answered, seen, from, run}
use Rattle.packets.specs.Packets.{BoardState, BoardOutcome}
use Rattle.board.specs.BoardKind.{Call, byte, gap, does, board_kind}
use Rattle.board.specs.Demand3.{Events, Trace}
use Rattle.board.specs.View.{gave, started_of, bare, start_refusal_in, Result, result}
use Rattle.board.specs.Values.{store_started, Starts}
use Rattle.board.specs.declared.board.Board.{Board}
use Rattle.board.specs.declared.board.Done.{Done}
use Rattle.wire.specs.declared.refusal.Refusal.{Refusal}
use Rattle.play.specs.Play.{event_of, part_of}
use Rattle.play.specs.Inner.{event_as, Decodes, Turns, Restarts, Enters}
use Rattle.play.specs.declared.event.EventKind.{EventKind}
use Rattle.play.specs.declared.Turn.{Turn}

-- ---- written at the start of a list

module _ (a b : ℕ) where
  pub two-over : (o : List ℕ) → 2 ≤ length o → set (set o 0 a) 1 b ≡ over (a ∷ b ∷ []) o
  unfolding over
  two-over [] h = absurd (omega arith)
  two-over (x ∷ []) h = absurd (omega arith)
  two-over (x ∷ y ∷ o) h = refl

  -- what is written past two places and over them too has no trace of what they held
  pub over-two : (t o : List ℕ) → over (a ∷ b ∷ t) (set (set o 0 a) 1 b) ≡ over (a ∷ b ∷ t) o
  unfolding over
  over-two t [] = refl
  over-two t (x ∷ []) = refl
  over-two t (x ∷ y ∷ o) = refl

-- one part over the first places and one over the rest are the two together over all
pub over-append : (e p o : List ℕ) (k : ℕ) → length e ≡ k → e ++ over p (drop k o) ≡ over (e ++ p) o
unfolding over
over-append e p o k h = rw (← h, drop-drop, append_assoc, length-append)

pub over-drop : (p o : List ℕ) (k : ℕ) → length p ≡ k → drop k (over p o) ≡ drop k o
unfolding over
over-drop p o k h = drop_at p (drop (length p) o) k h ∙ rw h

-- ---- an encoded event, by the tests

module _ (k : ℕ) (lent : List ℕ) where
  pub byte-event : k < 256 → event_of k lent ≡ call (byte k) lent
  unfolding event_of
  byte-event h = rw (lt-ltb k 256 h)

  pub gap-event : k ≡ 256 → event_of k lent ≡ call gap lent
  unfolding event_of
  gap-event h = rw h

  pub step-event : k ≡ 257 → event_of k lent ≡ step lent
  unfolding event_of
  step-event h = rw h

  cut-event : 256 ≤ k → (k ≡ 256 → ⊥) → (k ≡ 257 → ⊥) → event_of k lent ≡ cut
  unfolding event_of
  cut-event h g s = rw (le-ltb k 256 h, ne_eqb k 256 g, ne_eqb k 257 s)

-- what is lent to an event that is no cut
lent-part : (k wanted left : ℕ) → k ≤ 257 → min left wanted ≡ part_of k wanted left
unfolding part_of
lent-part k wanted left h =
    rw (le-ltb 257 k h)
    (cond-by (λ (x : ℕ). min left wanted ≡ x) (ltb left wanted) _ _ (λ t. omega (arith, ltb-true left wanted t))
    (λ f. omega (arith, ltb-false left wanted f)))

no-part : (k wanted left : ℕ) → 257 < k → 0 ≡ part_of k wanted left
unfolding part_of
no-part k wanted left h = rw (lt-ltb 257 k h)

module _ (k : ℕ) where
  pub byte-decodes : k < 256 → Decodes k (EventKind.Byte k)
  byte-decodes h = record { event = λ lent. sym (byte-event k lent h); part = λ w l. lent-part k w l (omega arith) }

  pub gap-decodes : k ≡ 256 → Decodes k EventKind.Gap
  gap-decodes h = record { event = λ lent. sym (gap-event k lent h); part = λ w l. lent-part k w l (omega arith) }

  pub step-decodes : k ≡ 257 → Decodes k EventKind.Step
  step-decodes h = record { event = λ lent. sym (step-event k lent h); part = λ w l. lent-part k w l (omega arith) }

  pub cut-decodes : 257 < k → Decodes k EventKind.Cut
  cut-decodes h =
      record {
        event = λ lent. sym (cut-event k lent (omega arith) (λ e. omega arith) (λ e. omega arith));
        part = λ w l. no-part k w l h;
      }

-- ---- what a call shows

shown : (i : Identity) (s : BoardState) (e : Event Call) (d : Done) (m m' lent : List ℕ) (o : BoardOutcome) → gave d m' lent ≡ result o m
    → ((es : Events) → seen board_kind o m ∷ run board_kind i o.state (after o m) es ≡ run board_kind i s m (e ∷ es))
    → Turns (Turn.Answered d) i s e m m' lent
unfolding seen
shown i s e d m m' lent o q f =
    record {
      traced = λ es. ap (λ (r : Result). answered r.answer r.buffer r.store ∷ run board_kind i r.state r.store es) q ∙ f es;
      kept = λ g. cc;
    }

abbrev lent_as : List ℕ → Result → Result
lent_as lent r = record { answer = r.answer; state = r.state; store = r.store; buffer = lent }

module _ (s : BoardState) (m lent : List ℕ) where
  gap-as : (x : EntryCheck) → lent_as lent (result (call_on board_kind x gap s m []) m) ≡ result (call_on board_kind x gap s m lent) m
  unfolding call_on refuse does
  gap-as (refused_entry n) = refl
  gap-as nonePendingEntry = refl
  gap-as pendingEntry = refl

  -- a gap leaves any lent buffer as it is, and is the same with all
  gap-lent : (d : Done) (m' : List ℕ) → gave d m' [] ≡ result (on_call board_kind gap s m []) m
      → gave d m' lent ≡ result (on_call board_kind gap s m lent) m
  unfolding on_call
  gap-lent d m' e = ap (lent_as lent) e ∙ gap-as (entry_check_of board_kind false s m)

-- each way through a turn: the event's call shows what its contract says
module _ (i : Identity) (s : BoardState) (k : EventKind) (m m' lent lent' : List ℕ) where
  module _ (d : Done) where
    pub byte-turns : (b : ℕ) → gave d m' lent' ≡ result (on_call board_kind (byte b) s m lent) m → k ≡ EventKind.Byte b
        → Turns (Turn.Answered d) i s (event_as k lent) m m' lent'
    unfolding run
    byte-turns b e h = rw h (shown i s _ d m m' lent' _ e (λ es. refl))

    pub gap-turns : gave d m' [] ≡ result (on_call board_kind gap s m []) m → k ≡ EventKind.Gap
        → Turns (Turn.Answered d) i s (event_as k lent) m m' lent
    unfolding run
    gap-turns e h = rw h (shown i s _ d m m' lent _ (gap-lent s m lent d m' e) (λ es. refl))

    pub step-turns : gave d m' lent' ≡ result (on_step board_kind s m lent) m → k ≡ EventKind.Step
        → Turns (Turn.Answered d) i s (event_as k lent) m m' lent'
    unfolding run
    step-turns e h = rw h (shown i s _ d m m' lent' _ e (λ es. refl))

-- ---- what a start shows

-- what follows a start goes by its board and by the store that it leaves
from-bare : (o : calls.Started BoardState) (m m' : List ℕ) (k : BoardState → List ℕ → Trace) → m' ≡ store_started o m
    → from board_kind (bare o) m' k ≡ from board_kind o m k
unfolding from
from-bare (calls.board s es) m m' k e = ap (k s) e
from-bare (calls.start_refused n) m m' k e = refl

refused-keeps : (o : calls.Started BoardState) (m : List ℕ) (n : ℕ) → calls.start_refused n ≡ bare o → store_started o m ≡ m
refused-keeps (calls.board s es) m n e = absurd (some-ne-none _ (ap start_refusal_in e))
refused-keeps (calls.start_refused k) m n e = refl

module _ (i : Identity) (v : Returned Board Refusal) (m m' : List ℕ) (told : Starts v m m' (on_start board_kind i m)) where
  answer-is : (w : Returned Board Refusal) → v ≡ w → started_of w ≡ bare (on_start board_kind i m)
  answer-is w e = ap started_of (sym e) ∙ told.started

  goes_on_lem : (w : Returned Board Refusal) (k : BoardState → List ℕ → Trace) → v ≡ w
      → from board_kind (started_of w) m' k ≡ from board_kind (on_start board_kind i m) m k
  goes_on_lem w k e =
      ap (λ (o : calls.Started BoardState). from board_kind o m' k) (answer-is w e) ∙ from-bare (on_start board_kind i m) m m' k told.store

  pub started-again : (b : Board) → v ≡ Ok b → Restarts (Turn.Started b) i m m'
  unfolding run from
  started-again b e = record { traced = λ s lent es. goes_on_lem (Ok b) _ e; kept = λ g. cc }

  pub refused-again : (q : Refusal) → v ≡ Err q → Restarts (Turn.Unstarted q) i m m'
  unfolding run from
  refused-again q e =
      record {
        traced = λ s lent es. goes_on_lem (Err q) _ e;
        kept = λ g. told.store ∙ refused-keeps (on_start board_kind i m) m (number_of q) (answer-is (Err q) e);
      }

-- ---- what is entered

module _ (t : Turn) (m log log' : List ℕ) where
  pub refusal-enters : (q : Refusal) (n : ℕ) → t ≡ Turn.Unstarted q → n ≡ number_of q → length m + 2 ≤ length log
      → Enters t m log (set (set log 0 8) 1 n)
  refusal-enters q n v e h = rw v (record { entered = λ lent. two-over 8 n log (omega arith) ∙ rw e })
