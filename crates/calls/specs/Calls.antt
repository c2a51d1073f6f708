-- The calls on a board (docs/RULES.md, 'Calls', CA2 and CA3, 'Store', ST4, and 'Erase and start'): soundness, the order of checks, the
-- erase step and the start, over a kind of board.
use Rattle.std.specs.Prelude.{Bool, true, false, cond, not, ◌&&◌, List, [], ◌∷◌, ℕ, suc, leb, ltb, eqb, length, get_or, take, drop}
use Rattle.wire.specs.Packet.{least_buffer}
use Rattle.plan.specs.Stores.{entry}
use Rattle.calls.specs.Board.{Identity, more, refused, Erase, idle, pending, is_pending, place_of, owed_of, State, Outcome, Started, board, start_refused}
use Rattle.calls.specs.Kind.{Kind}

-- byte 0
unfoldable pub mark : List ℕ → ℕ
mark m = get_or m 0 0

-- the mark of a store whose erase is pending
abbrev pub erase_mark : ℕ
erase_mark = 0xE7

-- bytes 1 to p - 1
unfoldable pub first_bytes : ℕ → List ℕ → List ℕ
first_bytes p m = drop 1 (take p m)

-- two lists are the same
unfoldable pub same : List ℕ → List ℕ → Bool
same [] [] = true
same [] (y ∷ ys) = false
same (x ∷ xs) [] = false
same (x ∷ xs) (y ∷ ys) = eqb x y && same xs ys

-- a lent buffer below 64 bytes
unfoldable pub is_short : List ℕ → Bool
is_short lent = ltb (length lent) least_buffer

-- ---- the entry check of every call but a start: 10, 12, then 9 or 13

-- a call is refused, or goes on: with no erase pending, or with one
pub data EntryCheck : Type 0 where
  refused_entry : ℕ → EntryCheck
  nonePendingEntry pendingEntry : EntryCheck

-- 10 for a short lent buffer, then 12 for a board that is not sound; what follows goes by whether an erase is pending
unfoldable pub entry_check : (short sound erasePending : Bool) → EntryCheck
entry_check short sound erasePending =
    cond short (refused_entry 10) (cond (not sound) (refused_entry 12) (cond erasePending pendingEntry nonePendingEntry))

-- at places up to 127 a step clears a byte
unfoldable pub clears_at : ℕ → Bool
clears_at p = leb p 127

module _ (K : Kind) where
  abbrev pub Board : Type 0
  Board = State K.Held K.Owed

  abbrev pub Left : Type 0
  Left = Outcome Board K.Sent

  -- a refusal that changes nothing
  unfoldable pub refuse : ℕ → Board → List ℕ → Left
  refuse n s lent = record { answer = refused n; state = s; stores = []; buffer = lent }

  -- nothing held and no erase pending; nothing held and an erase pending
  unfoldable pub at_rest : Identity → Board
  at_rest i = record { ident = i; held = K.nothing; erase = idle }

  unfoldable pub erasing : Identity → ℕ → K.Owed → Board
  erasing i p owed = record { ident = i; held = K.nothing; erase = pending p owed }

  -- ---- sound

  unfoldable pub is_sound_as : Erase K.Owed → K.Held → List ℕ → Bool
  is_sound_as idle held m = eqb (mark m) (mark K.unused) && K.in_range m && K.is_proper held
  is_sound_as (pending p owed) held m =
      eqb (mark m) erase_mark && K.is_nothing held && leb 1 p && leb p 128 && same (first_bytes p m) (first_bytes p K.unused)

  -- 'sound' (ST4)
  unfoldable pub is_sound : Board → List ℕ → Bool
  is_sound s m = K.is_identity s.ident && eqb (length m) 128 && is_sound_as s.erase s.held m

  unfoldable pub entry_check_of : (short : Bool) → Board → List ℕ → EntryCheck
  entry_check_of short s m = entry_check short (is_sound s m) (is_pending s.erase)

  -- ---- a call: with an erase pending 9, else the rest; a buffer is looked at where one is lent

  unfoldable pub call_on : EntryCheck → K.Call → Board → List ℕ → List ℕ → Left
  call_on (refused_entry n) c s m lent = refuse n s lent
  call_on pendingEntry c s m lent = refuse 9 s lent
  call_on nonePendingEntry c s m lent = K.does c s m lent

  unfoldable pub on_call : K.Call → Board → List ℕ → List ℕ → Left
  on_call c s m lent = call_on (entry_check_of (K.lends c && is_short lent) s m) c s m lent

  -- ---- an erase step: with none pending 13, else one byte

  -- the unused value at p while p is at most 127
  unfoldable pub clear_step : ℕ → K.Owed → Board → List ℕ → Left
  clear_step p owed s lent =
      record { answer = more; state = erasing s.ident (suc p) owed; stores = entry p (get_or K.unused p 0) ∷ []; buffer = lent }

  -- then the unused board's mark
  unfoldable pub end_step : K.Owed → Board → List ℕ → Left
  end_step owed s lent =
      record {
        answer = K.last_answer s.ident owed;
        state = at_rest s.ident;
        stores = entry 0 (mark K.unused) ∷ [];
        buffer = K.last_buffer s.ident owed lent;
      }

  unfoldable pub erase_step : ℕ → K.Owed → Board → List ℕ → Left
  erase_step p owed s lent = cond (clears_at p) (clear_step p owed s lent) (end_step owed s lent)

  unfoldable pub step_on : EntryCheck → Board → List ℕ → Left
  step_on (refused_entry n) s lent = refuse n s lent
  step_on nonePendingEntry s lent = refuse 13 s lent
  step_on pendingEntry s lent = erase_step (place_of s.erase) (owed_of K.none_owed s.erase) s lent

  unfoldable pub on_step : Board → List ℕ → List ℕ → Left
  on_step s m lent = step_on (entry_check_of (is_short lent) s m) s lent

  -- ---- a start: with the mark E7h no field is looked at

  unfoldable pub on_start : Identity → List ℕ → Started Board
  on_start i m =
      cond (eqb (length m) 128 && eqb (mark m) erase_mark)
      (cond (K.is_identity i) (board (erasing i 1 K.none_owed) []) (start_refused 12))
      (K.start_other i m)
