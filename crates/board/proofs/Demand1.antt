-- Demand 1, put together.
use mathlib.Core.Path.{◌≡◌, refl, sym, ◌∙◌, subst}
use mathlib.Core.Bool.{Bool, true, false, cond, not}
use mathlib.Core.List.{List, [], ◌∷◌, ◌++◌}
use mathlib.Core.Logic.{◌⊎◌, ⊎_elim}
use mathlib.Core.Option.{none}
use Prim.Native.Nat.{ℕ, ◌≤◌}
use native.Mathlib.Omega.{arith}
use lib.Dec.{ltb}
use lib.ListN.{length, get_or}
use Rattle.plan.specs.Stores.{Entry, applied}
use Rattle.wire.specs.Packet.{packet_text}
use Rattle.messages.specs.Read.{request_in}
use Rattle.calls.specs.Board.{Identity, waiting, refused, Erase, idle, pending, is_pending, board}
use Rattle.calls.specs.Calls.{is_short, is_sound, entry_check, entry_check_of, refuse, call_on, on_call, on_step, on_start}
use Rattle.calls.proofs.Kept.{call-keeps, step_keeps}
use Rattle.actions.specs.Act.{Effect, replies, begins, effect}
use Rattle.packets.specs.Packets.{BoardState, BoardOutcome, Addressee, own, all, another, addressee, to_own, to_all, on_packet_to, on_packet}
use Rattle.board.specs.BoardKind.{Call, byte, gap, board_kind}
use Rattle.board.specs.BoardKind as board
use Rattle.board.specs.Demand1.{is_whole, is_sound_board, byte_checks, gap_checks, Untouched, Unchanged, Holds, no_board_state, no_board_refusal, Demand1}
use Rattle.wire.specs.Checks.{first_failed}
use Rattle.board.proofs.BoardLaws.{board-laws}
use Rattle.board.proofs.RefusalLaws.{Refused, unchanged, emptied, call-refused, step-refused}
use Rattle.board.proofs.StartLaws.{no_id, unnamed_call_refused, unnamed_step_refused, SoundlyStarted, started-sound}
use Rattle.board.proofs.CheckLaws.{sound-as, byte_checked, gap_checked, step_checked, start_checked, start_given, byte-goes_on}

-- ---- what a refusal leaves

refused-unchanged : (n : ℕ) (s : BoardState) (lent : List ℕ) → Unchanged s lent (refuse board_kind n s lent)
unfolding refuse
refused-unchanged n s lent = record { state = refl; untouched = record { stores = refl; buffer = refl } }

module _ (c : Call) (s : BoardState) (m lent : List ℕ) (n : ℕ) (a : (on_call board_kind c s m lent).answer ≡ refused n) where
  abbrev Left : (BoardOutcome → Type 0) → Type 0
  Left P = P (on_call board_kind c s m lent)

  pub nothing_changed : (n ≡ 1) ⊎ (9 ≤ n) → Left (Unchanged s lent)
  nothing_changed h = go (call-refused c s m lent n a)
    where
      go : Refused s lent n (on_call board_kind c s m lent) → Left (Unchanged s lent)
      go (unchanged k e) = rw e (refused-unchanged n s lent)
      go (emptied low high e) = absurd (⊎_elim (λ x. omega arith) (λ x. omega arith) h)

  pub refusal_keeps : Left (Untouched lent)
  refusal_keeps = go (call-refused c s m lent n a)
    where
      go : Refused s lent n (on_call board_kind c s m lent) → Left (Untouched lent)
      go (unchanged k e) = rw e (refused-unchanged n s lent).untouched
      go (emptied low high e) = rw e (record { stores = refl; buffer = refl })

  nothing_held : 2 ≤ n → n ≤ 8 → Left (Holds s [] lent)
  nothing_held low high = go (call-refused c s m lent n a)
    where
      go : Refused s lent n (on_call board_kind c s m lent) → Left (Holds s [] lent)
      go (unchanged k e) = absurd (⊎_elim (λ x. omega arith) (λ x. omega arith) k)
      go (emptied l h e) = rw e (record { ident = refl; held = refl; erase = refl; untouched = record { stores = refl; buffer = refl } })

pub nothing_stepped : (s : BoardState) (m lent : List ℕ) (n : ℕ) → (on_step board_kind s m lent).answer ≡ refused n → Unchanged s lent (on_step board_kind s m lent)
nothing_stepped s m lent n a = rw (step-refused s m lent n a).1 (refused-unchanged n s lent)

-- ---- what is held where nothing is refused

module _ (b : ℕ) (s : BoardState) (m lent : List ℕ) (h : first_failed (byte_checks b s m lent) ≡ none) where
  byte_held : is_whole (s.held ++ (b ∷ [])) ≡ false
      → ((on_call board_kind (byte b) s m lent).answer ≡ waiting) × Holds s (s.held ++ (b ∷ [])) lent (on_call board_kind (byte b) s m lent)
  byte_held e =
      rw (byte-goes_on b s m lent h, e)
      (refl, record { ident = refl; held = refl; erase = refl; untouched = record { stores = refl; buffer = refl } })

  packet_empties : is_whole (s.held ++ (b ∷ [])) ≡ true → (on_call board_kind (byte b) s m lent).state.held ≡ []
  unfolding on_packet on_packet_to to_own to_all
  packet_empties e = rw (byte-goes_on b s m lent h, e) (go (addressee s.ident.id (get_or p 2 0)) _ refl)
    where
      p : List ℕ
      p = s.held ++ (b ∷ [])

      go : (to : Addressee) (x : Effect) → effect s.ident m (request_in (get_or p 4 0) (packet_text p)) ≡ x → (on_packet_to to s.ident m p lent).state.held ≡ []
      go own (replies r es) is = rw is
      go own begins is = rw is
      go all (replies r es) is = rw is
      go all begins is = rw is
      go another x is = refl

gap_empties : (s : BoardState) (m lent : List ℕ) → first_failed (gap_checks s m) ≡ none
    → ((on_call board_kind gap s m lent).answer ≡ waiting) × Holds s [] lent (on_call board_kind gap s m lent)
unfolding on_call call_on entry_check_of entry_check board.does first_failed gap_checks
gap_empties s m lent = rw (← sound-as s m) (go (is_sound board_kind s m) s.erase)
  where
    go : (sound : Bool) (e : Erase Bool) → first_failed ((not sound, 12) ∷ (is_pending e, 9) ∷ []) ≡ none
        → ((call_on board_kind (entry_check false sound (is_pending e)) gap s m lent).answer ≡ waiting)
        × Holds s [] lent (call_on board_kind (entry_check false sound (is_pending e)) gap s m lent)
    go false e h = let z : ◌≡◌ {A = ℕ} 0 1 = cc in absurd (omega arith)
    go true (pending p owed) h = let z : ◌≡◌ {A = ℕ} 0 1 = cc in absurd (omega arith)
    go true idle h = (refl, record { ident = refl; held = refl; erase = refl; untouched = record { stores = refl; buffer = refl } })

-- ---- a refused start

no_board_call : (c : Call) (m lent : List ℕ) → ((on_call board_kind c no_board_state m lent).answer ≡ refused (no_board_refusal c lent))
    × Unchanged no_board_state lent (on_call board_kind c no_board_state m lent)
unfolding refuse is_short
no_board_call (byte b) m lent = rw (unnamed_call_refused (byte b) no_board_state m lent (no_id _ refl)) (refl, refused-unchanged _ no_board_state lent)
no_board_call gap m lent = rw (unnamed_call_refused gap no_board_state m lent (no_id _ refl)) (refl, refused-unchanged _ no_board_state lent)

no_board_step : (m lent : List ℕ) → ((on_step board_kind no_board_state m lent).answer ≡ refused (cond (ltb (length lent) 64) 10 12))
    × Unchanged no_board_state lent (on_step board_kind no_board_state m lent)
unfolding refuse is_short
no_board_step m lent = rw (unnamed_step_refused no_board_state m lent (no_id _ refl)) (refl, refused-unchanged _ no_board_state lent)

start_sound : (i : Identity) (m : List ℕ) (s : BoardState) (es : List Entry) → on_start board_kind i m ≡ board s es → is_sound_board s (applied es m) ≡ true
start_sound i m s es e = sym (sound-as s (applied es m)) ∙ subst (SoundlyStarted m) e (started-sound i m)

pub demand1 : Demand1
demand1 =
    record {
      byte_checked = λ b s m lent. byte_checked s m lent b;
      gap_checked = gap_checked;
      step_checked = step_checked;
      start_checked = start_checked;
      nothing_changed = nothing_changed;
      nothing_stepped = nothing_stepped;
      refusal_keeps = refusal_keeps;
      emptied = nothing_held;
      byte_held = byte_held;
      gap_empties = gap_empties;
      packet_empties = packet_empties;
      start_given = start_given;
      no_board_law = λ n. refl;
      no_board_call = no_board_call;
      no_board_step = no_board_step;
      call_sound = λ c s m lent h. sym (sound-as _ _) ∙ call-keeps board-laws c s m lent (sound-as s m ∙ h);
      step_sound = λ s m lent h. sym (sound-as _ _) ∙ step_keeps board-laws s m lent (sound-as s m ∙ h);
      start_sound = start_sound;
    }
