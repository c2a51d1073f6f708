-- Laws of a list that is played: no event, an event after which there is no board, and an event with the events after it.
use borrow.Author.Tests.{lt-ltb, le-ltb, ltb-true, ltb-false}
use borrow.Author.Rules.{part_to_end}
use borrow.Rule.Slice.PartMut.{mid_of, put_mid, same_len_mid}
use mathlib.Core.Bool.{Bool, true, false}
use mathlib.Core.List.{List, [], ◌∷◌, ◌++◌, append-nil}
use mathlib.Core.Path.{◌≡◌, refl, sym, ap, ◌∙◌}
use Prim.Native.Nat.{ℕ, ◌+◌, ◌-◌, ◌*◌, ◌≤◌, ◌<◌}
use native.Mathlib.Omega.{arith}
use lib.Dec.{ltb}
use lib.ListN.{length, get_or, take, drop, length-append, length-drop, take-append-drop, drop_of_length-le}
use lib.Seq.{length-take-le, take_at, drop_at}
use Rattle.std.specs.Prelude.{Option, Some, None}
use Rattle.wire.specs.Packet.{over}
use Rattle.wire.proofs.PacketLaws.{over-take}
use Rattle.calls.specs.Board.{Identity}
use Rattle.calls.specs.Lists.{Event, answered, started, unstarted, seen, run}
use Rattle.packets.specs.Packets.{BoardState}
use Rattle.board.specs.BoardKind.{Call, board_kind}
use Rattle.board.specs.Demand3.{Events, Trace}
use Rattle.board.specs.View.{state_of}
use Rattle.board.specs.declared.board.Board.{Board}
use Rattle.play.specs.Play.{event_of, part_of, events_in, log_entry, log_of, lents_of, left_by, Plays}
use Rattle.play.specs.Inner.{event_as, part_as, Decodes, seen_of, board_after, trace_on, trace_of, Turns, Enters, LeavesRoom, PlaysRest, GoesOn}
use Rattle.play.specs.declared.First.{First}
use Rattle.play.specs.declared.event.EventKind.{EventKind}
use Rattle.play.specs.declared.Turn.{Turn}
use Rattle.play.proofs.Laws.{over-append, over-drop}

-- ---- no event

module _ (store room : ℕ) (lent : List ℕ) where
  -- fewer than two numbers
  none-few : (es : List ℕ) → length es < 2 → events_in store room es lent ≡ []
  unfolding events_in
  none-few [] h = refl
  none-few (k ∷ []) h = refl
  none-few (k ∷ w ∷ es) h = absurd (omega arith)

  -- no room
  none-room : (es : List ℕ) → room < store + 2 → events_in store room es lent ≡ []
  unfolding events_in
  none-room [] h = refl
  none-room (k ∷ []) h = refl
  none-room (k ∷ w ∷ es) h = rw (lt-ltb room (store + 2) h)

  -- one more
  one_more : (es : List ℕ) → 2 ≤ length es → store + 2 ≤ room
      → (n : ℕ) → n ≡ part_of (get_or es 0 0) (get_or es 1 0) (length lent)
      → events_in store room es lent ≡ event_of (get_or es 0 0) (take n lent) ∷ events_in store (room - (store + 2)) (drop 2 es) (drop n lent)
  unfolding events_in
  one_more [] h r n e = absurd (omega arith)
  one_more (k ∷ []) h r n e = absurd (omega arith)
  one_more (k ∷ w ∷ es) h r n e = rw (le-ltb room (store + 2) r, e)

-- with no event, or no room, nothing is played
module _ (i : Identity) (st : BoardState) (es m lent log : List ℕ) where
  abbrev Nothing : Type 0
  Nothing = Plays (run board_kind i st m (events_in (length m) (length log) es lent)) m m lent lent log log

  nothing : events_in (length m) (length log) es lent ≡ [] → Nothing
  unfolding left_by lents_of log_of over run
  nothing e = rw e (record { store = refl; lent = refl; log = refl })

  pub no_event : length es < 2 → Nothing
  no_event h = nothing (none-few _ _ lent es h)

  pub no_room : (full : Bool) → full ≡ ltb (length log) (length m + 2) → full ≡ true → Nothing
  no_room full told e = nothing (none-room _ _ lent es (ltb-true _ _ (sym told ∙ e)))

-- ---- what a start shows comes of no other event than a cut, which is lent nothing

abbrev shows_start : Trace → Bool
shows_start [] = false
shows_start (answered a lent m ∷ os) = false
shows_start (started m ∷ os) = true
shows_start (unstarted n ∷ os) = true

lent_nothing : (i : Identity) (st : BoardState) (m : List ℕ) (k : EventKind) (lent : List ℕ) (wanted left : ℕ)
    → shows_start (run board_kind i st m (event_as k lent ∷ [])) ≡ true → part_as k wanted left ≡ 0
unfolding run seen
lent_nothing i st m (EventKind.Byte b) lent wanted left e = cc
lent_nothing i st m EventKind.Gap lent wanted left e = cc
lent_nothing i st m EventKind.Step lent wanted left e = cc
lent_nothing i st m EventKind.Cut lent wanted left e = refl

-- ---- an event and its entry

-- a board after an event: the event's part of what a trace leaves, and the size of its entry
module _ (m m' part : List ℕ) (b : Board) where
  left_on : (t : Turn) → board_after t ≡ Some b → (os : Trace) → left_by (seen_of t m' part ∷ os) m ≡ left_by os m'
  unfolding left_by
  left_on (Turn.Answered d) e os = refl
  left_on (Turn.Started u) e os = refl
  left_on (Turn.Unstarted r) e os = cc

  entry-size : (t : Turn) → board_after t ≡ Some b → length (log_entry (seen_of t m' part)) ≡ length m' + 2
  entry-size (Turn.Answered d) e = omega arith
  entry-size (Turn.Started u) e = omega arith
  entry-size (Turn.Unstarted r) e = cc

-- what is known after them: the event wants w bytes, n and `part` are its part of what is lent, before and after it
record Known (t : Turn) (i : Identity) (st : BoardState) (k : EventKind) (w n : ℕ) (m m' lent part log log' : List ℕ) : Type 0 where
  turned : Turns t i st (event_as k (take n lent)) m m' part
  entered : Enters t m' log log'
  part_is : n ≡ part_as k w (length lent)
  part_size : length part ≡ n
  store_size : length m' ≡ length m

module _ {i : Identity} {st : BoardState} {k : EventKind} {w n : ℕ} {m m' lent part log log' : List ℕ} where
  -- a start has no part of what is lent
  no_part : (t : Turn) → Known t i st k w n m m' lent part log log' → shows_start (trace_of t i m' part []) ≡ true → part ≡ []
  no_part t h e =
      let none : part_as k w (length lent) ≡ 0 =
      lent_nothing i st m k (take n lent) w (length lent) (sym (ap shows_start (h.turned.traced [])) ∙ e) in
      drop_of_length-le part {i = 0} (omega (arith, h.part_size, h.part_is))

  -- no board after it
  stops : (t : Turn) → Known t i st k w n m m' lent part log log' → board_after t ≡ None → (es : Events)
      → Plays (run board_kind i st m (event_as k (take n lent) ∷ es)) m m' lent (part ++ drop n lent) log log'
  unfolding left_by lents_of log_of over
  stops (Turn.Answered d) h e es = absurd cc
  stops (Turn.Started b) h e es = absurd cc
  stops (Turn.Unstarted r) h e es =
      let none = no_part (Turn.Unstarted r) h refl in
      let zero : n ≡ 0 = sym h.part_size ∙ ap length none in
      rw (← h.turned.traced es) (record { store = h.turned.kept refl; lent = rw (none, zero); log = h.entered.entered [] })

  -- a board after it
  lent_on : (b : Board) (t : Turn) → Known t i st k w n m m' lent part log log' → board_after t ≡ Some b → (os : Trace)
      → lents_of (seen_of t m' part ∷ os) ≡ part ++ lents_of os
  unfolding lents_of
  lent_on b (Turn.Answered d) h e os = refl
  lent_on b (Turn.Started u) h e os = rw (no_part (Turn.Started u) h refl)
  lent_on b (Turn.Unstarted r) h e os = cc

  module _ (t : Turn) (h : Known t i st k w n m m' lent part log log') (b : Board) (e : board_after t ≡ Some b) where
    entry-room : length (log_entry (seen_of t m' part)) ≡ length m + 2
    entry-room = entry-size m m' part b t e ∙ rw h.store_size

    goes : (es : Events) (m'' rest log'' : List ℕ)
        → Plays (run board_kind i (state_of b) m' es) m' m'' (drop n lent) rest (drop (length m + 2) log) log''
        → Plays (run board_kind i st m (event_as k (take n lent) ∷ es)) m m'' lent (part ++ rest) log (log_entry (seen_of t m' part) ++ log'')
    unfolding log_of
    goes es m'' rest log'' p =
        let os = run board_kind i (state_of b) m' es in
        let traced : seen_of t m' part ∷ os ≡ run board_kind i st m (event_as k (take n lent) ∷ es) =
        ap (λ (o : Option Board). seen_of t m' part ∷ trace_on o i m' es) (sym e) ∙ h.turned.traced es in
        rw (← traced)
        (record {
          store = p.store ∙ sym (left_on m m' part b t e os);
          lent = rw (p.lent, lent_on b t h e os) (over-append part _ lent n h.part_size);
          log = rw p.log (over-append (log_entry (seen_of t m' part)) _ log (length m + 2) entry-room);
        })

-- ---- the first event of a list

module _ {i : Identity} {st : BoardState} {k : EventKind} {n : ℕ} {m m' lent part log log' : List ℕ} (es : List ℕ) (two : 2 ≤ length es)
    (room : length m + 2 ≤ length log) (t : Turn) (h : Known t i st k (get_or es 1 0) n m m' lent part log log')
    (read : Decodes (get_or es 0 0) k) where
  -- it is the one that was played
  first_played : events_in (length m) (length log) es lent
      ≡ event_as k (take n lent) ∷ events_in (length m) (length log - (length m + 2)) (drop 2 es) (drop n lent)
  first_played =
      one_more (length m) (length log) lent es two room n (h.part_is ∙ read.part _ _)
      ∙ ap (λ (e : Event Call). e ∷ events_in (length m) (length log - (length m + 2)) (drop 2 es) (drop n lent)) (sym (read.event (take n lent)))

  played-last : board_after t ≡ None → Plays (run board_kind i st m (events_in (length m) (length log) es lent)) m m' lent (part ++ drop n lent) log log'
  played-last e = rw first_played (stops t h e _)

  module _ (b : Board) (e : board_after t ≡ Some b) where
    lent-rest : drop n (part ++ drop n lent) ≡ drop n lent
    lent-rest = drop_at part (drop n lent) n h.part_size

    log-rest : drop (length m' + 2) log' ≡ drop (length m + 2) log
    log-rest = rw (h.store_size, h.entered.entered part) (over-drop _ log (length m + 2) (entry-room t h b e))

    log-first : take (length m' + 2) log' ≡ log_entry (seen_of t m' part)
    log-first = rw (h.store_size, h.entered.entered part) (over-take _ log (length m + 2) (entry-room t h b e))

    played-on : (m'' lent'' log'' : List ℕ) → PlaysRest (record { board = b; part = n }) i es m' m'' (part ++ drop n lent) lent'' log' log''
        → Plays (run board_kind i st m (events_in (length m) (length log) es lent)) m m'' lent lent'' log log''
    played-on m'' lent'' log'' p =
        let left : length (drop (length m + 2) log) ≡ length log - (length m + 2) = length-drop (length m + 2) log in
        let later = rw (lent-rest, log-rest, left, h.store_size) at p.plays in
        let lent-first : take n lent'' ≡ part = p.lent_kept ∙ take_at part (drop n lent) n h.part_size in
        let whole-lent : part ++ drop n lent'' ≡ lent'' = rw (← lent-first) (take-append-drop n lent'') in
        let whole-log : log_entry (seen_of t m' part) ++ drop (length m + 2) log'' ≡ log'' =
        rw (← log-first, ← p.log_kept, h.store_size) (take-append-drop (length m + 2) log'') in
        rw first_played (rw (whole-lent, whole-log) at (goes t h b e _ m'' _ _ later))

-- what the parts of the first event's play give together
module _ (t : Turn) (k : EventKind) (n : ℕ) (i : Identity) (st : BoardState) (es m m' lent part log log' : List ℕ)
    (turned : Turns t i st (event_as k (take n lent)) m m' part) (entered : Enters t m' log log') (read : Decodes (get_or es 0 0) k)
    (part_is : n ≡ part_as k (get_or es 1 0) (length lent)) (fits : n ≤ length lent) (sized : length part ≡ length (take n lent))
    (store_size : length m' ≡ length m) (two : 2 ≤ length es) (room : length m + 2 ≤ length log)
    (r : Option Board) (after : r ≡ board_after t) where
  known : Known t i st k (get_or es 1 0) n m m' lent part log log'
  known =
      record { turned = turned; entered = entered; part_is = part_is; part_size = sized ∙ length-take-le n lent fits; store_size = store_size }

  pub plays-last : r ≡ None
      → Plays (run board_kind i st m (events_in (length m) (length log) es lent)) m m' lent (part ++ drop n lent) log log'
  plays-last e = played-last es two room t known read (sym after ∙ e)

  pub plays-on : (b : Board) → r ≡ Some b → length log' ≡ length log
      → GoesOn (record { board = b; part = n }) i st es m m' lent (part ++ drop n lent) log log'
  plays-on b e log-size =
      record {
        leaves = record { two = two; part = rw length-append (omega (arith, known.part_size)); room = omega arith };
        goes = played-on es two room t known read b (sym after ∙ e);
      }

-- a log that is not full has room for an entry
pub room-left : (full : Bool) (log room : ℕ) → full ≡ ltb log room → full ≡ false → room ≤ log
room-left full log room told e = ltb-false log room (sym told ∙ e)

-- ---- the parts that the code lends on

-- all from a place on, and a list with it in its place
abbrev rest_of : ℕ → List ℕ → List ℕ
rest_of a xs = mid_of a (length xs - a) xs

abbrev with_rest : ℕ → List ℕ → List ℕ → List ℕ
with_rest a xs ys = put_mid a (length xs - a) xs ys

with-rest_is : (a : ℕ) (xs ys : List ℕ) → with_rest a xs ys ≡ take a xs ++ ys
with-rest_is a xs ys =
    let none : drop (length xs - a) (drop a xs) ≡ [] = drop_of_length-le (drop a xs) {i = length xs - a} (rw (length-drop a xs) (omega arith)) in
    rw (none, append-nil)

with-rest_first : (a : ℕ) (xs ys : List ℕ) → a ≤ length xs → take a (with_rest a xs ys) ≡ take a xs
with-rest_first a xs ys h = rw (with-rest_is a xs ys) (take_at (take a xs) ys a (length-take-le a xs h))

with-rest_rest : (a : ℕ) (xs ys : List ℕ) → a ≤ length xs → drop a (with_rest a xs ys) ≡ ys
with-rest_rest a xs ys h = rw (with-rest_is a xs ys) (drop_at (take a xs) ys a (length-take-le a xs h))

pub plays-rest : (f : First) (i : Identity) (es m m' lent rest log log' : List ℕ)
    → Plays (run board_kind i (state_of f.board) m (events_in (length m) (length (rest_of (length m + 2) log)) (rest_of 2 es) (rest_of f.part lent)))
    m m' (rest_of f.part lent) rest (rest_of (length m + 2) log) log'
    → LeavesRoom f es m lent log → PlaysRest f i es m m' lent (with_rest f.part lent rest) log (with_rest (length m + 2) log log')
plays-rest f i es m m' lent rest log log' p l =
    record {
      plays =
          rw (with-rest_rest f.part lent rest l.part, with-rest_rest (length m + 2) log log' l.room)
          (rw (part_to_end lent f.part, part_to_end log (length m + 2), part_to_end es 2) at p);
      lent_kept = with-rest_first f.part lent rest l.part;
      log_kept = with-rest_first (length m + 2) log log' l.room;
    }

-- the rest of a list is shorter than the list
pub rest-fewer : (t : ℕ) (es : List ℕ) → 2 * length es ≡ t → 2 ≤ length es → 2 * length (rest_of 2 es) + 1 < t
rest-fewer t es e h = rw (part_to_end es 2, length-drop) (omega arith)

pub rest-kept : (a : ℕ) (xs ys zs : List ℕ) → length ys ≡ length (rest_of a xs) → length xs ≡ length zs → length (with_rest a xs ys) ≡ length zs
rest-kept a xs ys zs e h = same_len_mid a (length xs - a) xs ys e ∙ h
