-- Each way through a call: under the tests that the code makes on the way, what the chain of checks in the definition comes to, and what is left in
-- the board's value.
use mathlib.Core.Path.{◌≡◌, refl, ap, sym, ◌∙◌, subst}
use mathlib.Core.Bool.{Bool, true, false, cond, ◌&&◌, and_assoc, false≢true}
use mathlib.Core.List.{List, [], ◌∷◌, ◌++◌}
use Rattle.std.specs.Prelude.{Result, Ok, Err}
use Prim.Native.Nat.{ℕ, zero, suc, min, ◌+◌, ◌≤◌, ◌<◌}
use native.Mathlib.Numerals.{add-one}
use native.Mathlib.Omega.{arith}
use lib.Dec.{ltb, leb, eqb}
use lib.ListN.{length, get_or, take, length-take, length-append, length-set}
use borrow.Author.Tests.{le-leb, lt-leb, leb-true, leb-false, ne_eqb, eqb-true, eqb-false, ltb-false}
use Rattle.std.proofs.Common.{Result, Ok, Err}
use Rattle.wire.specs.Refusal.{number_of, changes_nothing}
use Rattle.wire.specs.declared.refusal.Refusal.{Refusal}
use Rattle.wire.specs.Packet.{soh, size, packet_text, least_buffer}
use Rattle.wire.specs.Inner.{Whole}
use Rattle.wire.specs.Judge as judge
use Rattle.wire.proofs.Tests.{cond-by, both}
use Rattle.plan.specs.Stores.{Entry, entry, applied}
use Rattle.plan.specs.Plans.{stores_of}
use Rattle.plan.specs.Inner.{Committable}
use Rattle.layouts.specs.Layouts.{older_mark, layout_mark, is_layout, fits_layout, conversion, unused_store}
use Rattle.layouts.proofs.ConversionLaws.{conversion-none, conversion-ready}
use Rattle.plan.specs.Inner.{Committable}
use Rattle.wire.specs.declared.digits.Octets.{Octets}
use Rattle.receiver.specs.Receive as receive
use Rattle.receiver.specs.View.{held_of, reception_in, receipt, emptied, with_byte, receiver_after, WholeOf}
use Rattle.receiver.specs.Inner.{asked, checkpoint}
use Rattle.receiver.specs.declared.Receiver.{Receiver}
use Rattle.receiver.specs.declared.Received.{Received}
use Rattle.receiver.specs.declared.Reception.{Reception}
use Rattle.receiver.proofs.Laws.{one_more, count-short, asked-tells, asked-proper}
use Rattle.calls.specs.Board as calls
use Rattle.calls.specs.Board.{Identity, pending, idle, is_pending, place_of, owed_of}
use Rattle.calls.specs.Calls.{refused_entry, mark, erase_mark, first_bytes, same, entry_check, is_short, clears_at, refuse, at_rest, erasing, is_sound_as, is_sound, entry_check_of, call_on, on_call, clear_step, end_step, erase_step, step_on, on_step, on_start}
use Rattle.calls.specs.View.{entry_check_as}
use Rattle.calls.proofs.Steps.{Passed, idle-passed, pending-passed}
use Rattle.actions.specs.Act.{Effect, replies, begins, effect}
use Rattle.actions.specs.View.{identity_bytes}
use Rattle.messages.specs.Read.{request_in}
use Rattle.board.specs.BoardKind as kind
use Rattle.packets.specs.Packets.{holding, on_packet, on_packet_to, to_own, to_all, addressee, Addressee, own, all, another, BoardState, BoardOutcome, is_identity}
use Rattle.packets.specs.Inner.{answer_after, erase_after, outcome_of}
use Rattle.packets.specs.declared.Acted.{Acted}
use Rattle.packets.specs.declared.Planned as packets
use Rattle.packets.proofs.IdentityLaws.{named_told}
use Rattle.board.specs.BoardKind.{Call, byte, gap, lends, start_other, board_kind}
use Rattle.board.specs.View.{erase_of, state_of, answer_of, Gives, planned_outcome, Plans, start_refusal_in, start_refusal_of, given_identity}
use Rattle.board.specs.Values.{fresh_board, Starts, with_receiver, with_erase, byte_leaves, call_leaves, step_leaves}
use Rattle.board.specs.Inner.{identity_fits, start_state, start_state_as, erase_fits, sound_fits, Sized, Accepting, Acting, Erasing, Planning, packet_leaves_by, packet_leaves}
use Rattle.board.specs.declared.board.Erase.{Erase}
use Rattle.board.specs.declared.board.Board.{Board}
use Rattle.board.specs.declared.board.Answer.{Answer}
use Rattle.board.specs.declared.board.Planned.{Planned}
use Rattle.board.proofs.BoardLaws.{Resting, resting, whole_is}
use Rattle.board.proofs.Bounds.{call-committable, step-committable}
use Rattle.board.proofs.ValueLaws.{erase-back, fresh-state, refusal-leaves}

-- ---- soundness by the counts of the texts

-- a text is seen as at most 17 bytes, so it is short where its count is
module _ (t : Octets) (all : length t.bytes ≡ 16) where
  seen-length : length (identity_bytes t) ≡ min t.count 17
  seen-length = simp (length-take, length-append, all)

  pub seen_few : leb (length (identity_bytes t)) 16 ≡ leb t.count 16
  seen_few =
      cond-by (λ (_ : ℕ). leb (length (identity_bytes t)) 16 ≡ leb t.count 16) (leb t.count 16) 0 0
      (λ h. rw h (le-leb (length (identity_bytes t)) 16 (omega (arith, seen-length, leb-true t.count 16 h))))
      (λ h. rw h (lt-leb (length (identity_bytes t)) 16 (omega (arith, seen-length, leb-false t.count 16 h))))

  pub count-few : length (identity_bytes t) ≤ 16 → t.count ≤ 16
  count-few h = omega (arith, seen-length)

-- of an array of 73 bytes none are held only where the count is 0
none-held : (n : ℕ) (a : List ℕ) → length a ≡ 73 → eqb (length (take n a)) 0 ≡ eqb n 0
none-held zero a h = refl
none-held (suc n) [] h = absurd (omega arith)
none-held (suc n) (b ∷ a) h = ne_eqb (length (take (suc n) (b ∷ a))) 0 (λ e. omega arith) ∙ sym (ne_eqb (suc n) 0 (λ e. omega arith))

erase-fits : (r : Receiver) (e : Erase) (m : List ℕ) → length r.held ≡ 73
    → erase_fits r.len (asked (held_of r)) e m ≡ is_sound_as board_kind (erase_of e) (held_of r) m
unfolding is_sound_as
erase-fits r Erase.Idle m h = rw (asked-tells (held_of r))
erase-fits r (Erase.Pending p owed) m h = rw (none-held r.len r.held h)

module _ (b : Board) (m : List ℕ) (serial : length b.identity.serial.bytes ≡ 16) (model : length b.identity.model.bytes ≡ 16)
    (held : length b.receiver.held ≡ 73) where
  identity-fits : is_identity (state_of b).ident ≡ identity_fits b.identity.id b.identity.serial.count b.identity.model.count
  unfolding is_identity
  identity-fits = rw (seen_few b.identity.serial serial, seen_few b.identity.model model)

  sound-fits : is_sound board_kind (state_of b) m
      ≡ sound_fits b.identity.id b.identity.serial.count b.identity.model.count b.receiver.len (asked (held_of b.receiver)) b.erase m
  unfolding is_sound
  sound-fits =
      rw (identity-fits, erase-fits b.receiver b.erase m held)
      (and_assoc (identity_fits b.identity.id b.identity.serial.count b.identity.model.count) (eqb (length m) 128)
      (is_sound_as board_kind (erase_of b.erase) (held_of b.receiver) m))

  pub entry-told : (wanted : ℕ) (sound pendingNow short : Bool) (e : Result Bool Refusal) → wanted ≡ asked (held_of b.receiver)
      → sound ≡ sound_fits b.identity.id b.identity.serial.count b.identity.model.count b.receiver.len wanted b.erase m
      → pendingNow ≡ is_pending (erase_of b.erase)
      → entry_check_as e ≡ entry_check short sound pendingNow → entry_check_as e ≡ entry_check_of board_kind short (state_of b) m
  unfolding entry_check_of
  entry-told wanted sound pendingNow short e wants is phase told = told ∙ rw (is, phase, wants, sound-fits)

-- ---- the entry check

-- the code's answer is the definition's
abbrev pub Entered : Result Bool Refusal → (short : Bool) → BoardState → List ℕ → Type 0
Entered e short s m = entry_check_as e ≡ entry_check_of board_kind short s m

-- an arm of a match on the code's answer
pub ok_is : {entry : Result Bool Refusal} {b : Bool} (x : Bool) → entry ≡ Ok x → x ≡ b → entry ≡ Ok b
ok_is x e f = cc

-- the refusals of the entry check change nothing
entry-number : (short sound erasePending : Bool) (n : ℕ) → refused_entry n ≡ entry_check short sound erasePending → changes_nothing n ≡ true
unfolding entry_check changes_nothing
entry-number true sound erasePending n e = let k : n ≡ 10 = cc in rw k
entry-number false false erasePending n e = let k : n ≡ 12 = cc in rw k
entry-number false true true n e = cc
entry-number false true false n e = cc

refused-plan : (p : Planned) (b : Board) (r : Refusal) (lent : List ℕ) → Planning p b (Answer.Refused r) [] → planned_outcome p lent ≡ refuse board_kind (number_of r) (state_of b) lent
unfolding refuse
refused-plan p b r lent is = rw (is.board, is.answer, is.stores)

-- a call, by what its entry check answered
module _ (c : Call) (b : Board) (m lent : List ℕ) (entry : Result Bool Refusal) (short : Bool) (told : Entered entry short (state_of b) m)
    (lent-short : short ≡ (lends c && is_short lent)) where
  call-entered : on_call board_kind c (state_of b) m lent ≡ call_on board_kind (entry_check_as entry) c (state_of b) m lent
  unfolding on_call
  call-entered = rw (told, lent-short)

  -- by the entry check, or by an erase that is pending
  module _ (r : Refusal) (stops : call_on board_kind (entry_check_as entry) c (state_of b) m lent ≡ refuse board_kind (number_of r) (state_of b) lent)
      (nothing : changes_nothing (number_of r) ≡ true) where
    call-refused_is : on_call board_kind c (state_of b) m lent ≡ refuse board_kind (number_of r) (state_of b) lent
    call-refused_is = call-entered ∙ stops

    kept : b ≡ call_leaves c b (on_call board_kind c (state_of b) m lent)
    kept = rw call-refused_is (sym (refusal-leaves c b (number_of r) (state_of b) lent nothing))

    refused_plans : (p : Planned) → Planning p b (Answer.Refused r) [] → Plans p lent (call_leaves c b) (on_call board_kind c (state_of b) m lent)
    refused_plans p is = record { outcome = refused-plan p b r lent is ∙ sym call-refused_is; value = is.board ∙ kept }

    refused_gives : Gives (record { board = b; answer = Answer.Refused r }) m m lent (call_leaves c b) (on_call board_kind c (state_of b) m lent)
    unfolding refuse
    refused_gives = record { result = sym (rw call-refused_is); value = kept }

  module _ (r : Refusal) (e : entry ≡ Err r) where
    entry-stops : call_on board_kind (entry_check_as entry) c (state_of b) m lent ≡ refuse board_kind (number_of r) (state_of b) lent
    unfolding call_on
    entry-stops = rw e

    entry-nothing : changes_nothing (number_of r) ≡ true
    unfolding entry_check_of
    entry-nothing = entry-number short _ _ (number_of r) (rw e at told)

    pub call-refused_plans : (p : Planned) → Planning p b (Answer.Refused r) [] → Plans p lent (call_leaves c b) (on_call board_kind c (state_of b) m lent)
    call-refused_plans = refused_plans r entry-stops entry-nothing

    pub call-refused_gives : Gives (record { board = b; answer = Answer.Refused r }) m m lent (call_leaves c b) (on_call board_kind c (state_of b) m lent)
    call-refused_gives = refused_gives r entry-stops entry-nothing

  module _ (e : entry ≡ Ok true) where
    erase-stops : call_on board_kind (entry_check_as entry) c (state_of b) m lent ≡ refuse board_kind 9 (state_of b) lent
    unfolding call_on
    erase-stops = rw e

    pub call-pending_plans : (p : Planned) → Planning p b (Answer.Refused Refusal.ErasePending) []
        → Plans p lent (call_leaves c b) (on_call board_kind c (state_of b) m lent)
    unfolding changes_nothing
    call-pending_plans = refused_plans Refusal.ErasePending erase-stops refl

    pub call-pending_gives : Gives (record { board = b; answer = Answer.Refused Refusal.ErasePending }) m m lent (call_leaves c b) (on_call board_kind c (state_of b) m lent)
    unfolding changes_nothing
    call-pending_gives = refused_gives Refusal.ErasePending erase-stops refl

  call-done_is : entry ≡ Ok false → kind.does c (state_of b) m lent ≡ on_call board_kind c (state_of b) m lent
  unfolding call_on
  call-done_is e = sym (call-entered ∙ rw e)

  pub call-done_plans : (p : Planned) (lent' : List ℕ) → entry ≡ Ok false → Plans p lent' (call_leaves c b) (kind.does c (state_of b) m lent)
      → Plans p lent' (call_leaves c b) (on_call board_kind c (state_of b) m lent)
  call-done_plans p lent' e h = subst (Plans p lent' (call_leaves c b)) (call-done_is e) h

-- a step, by what its entry check answered
module _ (b : Board) (m lent : List ℕ) (entry : Result Bool Refusal) (told : Entered entry (is_short lent) (state_of b) m) where
  step-entered : on_step board_kind (state_of b) m lent ≡ step_on board_kind (entry_check_as entry) (state_of b) lent
  unfolding on_step
  step-entered = rw told

  refused_step : (r : Refusal) → step_on board_kind (entry_check_as entry) (state_of b) lent ≡ refuse board_kind (number_of r) (state_of b) lent
      → (p : Planned) → Planning p b (Answer.Refused r) [] → Plans p lent (step_leaves b) (on_step board_kind (state_of b) m lent)
  unfolding refuse
  refused_step r stops p is =
      let q : on_step board_kind (state_of b) m lent ≡ refuse board_kind (number_of r) (state_of b) lent = step-entered ∙ stops in
      record {
        outcome = refused-plan p b r lent is ∙ sym q;
        value = is.board ∙ rw (q, erase-back b.erase);
      }

  pub step-refused_plans : (p : Planned) (r : Refusal) → Planning p b (Answer.Refused r) [] → entry ≡ Err r
      → Plans p lent (step_leaves b) (on_step board_kind (state_of b) m lent)
  unfolding step_on
  step-refused_plans p r is e = refused_step r (rw e) p is

  pub step_idle_plans : (p : Planned) → Planning p b (Answer.Refused Refusal.NoErasePending) [] → entry ≡ Ok false
      → Plans p lent (step_leaves b) (on_step board_kind (state_of b) m lent)
  unfolding step_on
  step_idle_plans p is e = refused_step Refusal.NoErasePending (rw e) p is

  pub step_erased_plans : (p : Planned) (lent' : List ℕ) → entry ≡ Ok true
      → Plans p lent' (step_leaves b) (erase_step board_kind (place_of (erase_of b.erase)) (owed_of false (erase_of b.erase)) (state_of b) lent)
      → Plans p lent' (step_leaves b) (on_step board_kind (state_of b) m lent)
  unfolding step_on
  step_erased_plans p lent' e h = subst (Plans p lent' (step_leaves b)) (sym (step-entered ∙ rw e)) h

-- what the calls behind the entry check ask

idle-is : (e : Erase) → is_pending (erase_of e) ≡ false → e ≡ Erase.Idle
idle-is Erase.Idle h = refl
idle-is (Erase.Pending p owed) h = absurd (false≢true (sym h))

module _ (b : Board) (m : List ℕ) (entry : Result Bool Refusal) (short : Bool) (told : Entered entry short (state_of b) m) where
  idle-behind : entry ≡ Ok false → Passed short (is_sound board_kind (state_of b) m) (is_pending (erase_of b.erase)) false
  unfolding entry_check_of
  idle-behind e = idle-passed short _ _ (sym told ∙ rw e)

  pending-behind : entry ≡ Ok true → Passed short (is_sound board_kind (state_of b) m) (is_pending (erase_of b.erase)) true
  unfolding entry_check_of
  pending-behind e = pending-passed short _ _ (sym told ∙ rw e)

  idle-erase : entry ≡ Ok false → b.erase ≡ Erase.Idle
  idle-erase e = idle-is b.erase (idle-behind e).phase

module _ (b : Board) (m lent : List ℕ) (entry : Result Bool Refusal) (told : Entered entry (ltb (length lent) least_buffer) (state_of b) m) where
  pub accepting : (wanted : ℕ) → wanted ≡ asked (held_of b.receiver) → Sized b → entry ≡ Ok false → Accepting b wanted m lent
  accepting wanted wants sized e =
      let p = idle-behind b m entry _ told e in
      record {
        sound = p.is_sound_law;
        idle = idle-erase b m entry _ told e;
        wants = wants;
        sized = sized;
        room = ltb-false (length lent) least_buffer p.long;
      }

  pub erasing_behind : length b.receiver.held ≡ 73 → entry ≡ Ok true → Erasing b lent
  unfolding is_sound is_sound_as
  erasing_behind held e =
      let p = pending-behind b m entry _ told e in
      let s = state_of b in
      let x = both (is_identity s.ident && eqb (length m) 128) (is_sound_as board_kind s.erase s.held m) p.is_sound_law in
      let y = both (is_identity s.ident) (eqb (length m) 128) x.0 in
      record {
        known = (named_told s.ident y.0).most;
        none = nothing_held b.erase p.phase x.1;
        room = ltb-false (length lent) least_buffer p.long;
      }
    where
      nothing_held : (e : Erase) → is_pending (erase_of e) ≡ true → is_sound_as board_kind (erase_of e) (held_of b.receiver) m ≡ true → b.receiver.len ≡ 0
      nothing_held Erase.Idle q h = absurd (false≢true q)
      nothing_held (Erase.Pending place owed) q h =
          let isMarked = eqb (mark m) erase_mark in
          let is_empty = eqb (length (held_of b.receiver)) 0 in
          let x = both (isMarked && is_empty && leb 1 place && leb place 128) (same (first_bytes place m) (first_bytes place unused_store)) h in
          let y = both (isMarked && is_empty && leb 1 place) (leb place 128) x.0 in
          let z = both (isMarked && is_empty) (leb 1 place) y.0 in
          eqb-true b.receiver.len 0 (sym (none-held b.receiver.len b.receiver.held held) ∙ (both isMarked is_empty z.0).1)

-- ---- an erase step

module _ (p : Planned) (b : Board) (place : ℕ) (owed : Bool) (lent : List ℕ) (none : b.receiver.len ≡ 0) (at : place ≡ place_of (erase_of b.erase))
    (owes : owed ≡ owed_of false (erase_of b.erase)) where
  pub clears-plans : place ≤ 127 → Planning p (with_erase b (Erase.Pending (place + 1) owed)) Answer.More (entry place (get_or unused_store place 0) ∷ [])
      → Plans p lent (step_leaves b) (erase_step board_kind (place_of (erase_of b.erase)) (owed_of false (erase_of b.erase)) (state_of b) lent)
  unfolding erase_step clear_step erasing clears_at
  clears-plans h is =
      rw (← at, ← owes, le-leb place 127 h)
      (record { outcome = rw (is.board, is.answer, is.stores, none, add-one); value = is.board ∙ rw add-one })

  pub ends-plans : 127 < place → (lent' : List ℕ) → (p.board ≡ with_erase b Erase.Idle) × (stores_of p.plan ≡ entry 0 layout_mark ∷ [])
      → (answer_of p.answer ≡ kind.last_answer (state_of b).ident owed) × (lent' ≡ kind.last_buffer (state_of b).ident owed lent)
      → Plans p lent' (step_leaves b) (erase_step board_kind (place_of (erase_of b.erase)) (owed_of false (erase_of b.erase)) (state_of b) lent)
  unfolding erase_step end_step at_rest mark unused_store clears_at
  ends-plans h lent' is last =
      rw (← at, ← owes, lt-leb place 127 h)
      (record { outcome = rw (is.0, last.0, is.1, none, last.1); value = is.0 })

-- ---- a start

-- a board with an identity and nothing held, where a start gives one, and what is stored
abbrev started_as : Identity → List Entry → calls.Started (calls.Erase Bool) → calls.Started BoardState
started_as i stores (calls.board e es) = calls.board (record { ident = i; held = []; erase = e }) stores
started_as i stores (calls.start_refused n) = calls.start_refused n

-- a store with the mark E7h is not converted
erasing-kept : (m : List ℕ) → (eqb (length m) 128 && eqb (mark m) erase_mark) ≡ true → conversion m ≡ []
unfolding mark
erasing-kept m t =
    let e = eqb-true (get_or m 0 0) erase_mark (both (eqb (length m) 128) (eqb (get_or m 0 0) erase_mark) t).1 in conversion-none m (λ q. omega arith)

start-told : (i : Identity) (m : List ℕ) → on_start board_kind i m ≡ started_as i (conversion m) (start_state m (is_identity i))
unfolding on_start start_other erasing
start-told i m =
    go (eqb (length m) 128 && eqb (mark m) erase_mark) (eqb (length m) 128 && is_layout (mark m)) (is_identity i) (fits_layout m) (conversion m) (erasing-kept m)
  where
    go : (erase layout named fits : Bool) (es : List Entry) → (erase ≡ true → es ≡ [])
        → cond erase (cond named (calls.board (record { ident = i; held = []; erase = pending 1 false }) []) (calls.start_refused 12))
        (cond layout (cond (named && fits) (calls.board (holding i []) es) (calls.start_refused 12)) (calls.start_refused 11))
        ≡ started_as i es
        (cond erase (cond named (calls.board (pending 1 false) []) (calls.start_refused 12))
        (cond layout (cond (named && fits) (calls.board idle []) (calls.start_refused 12)) (calls.start_refused 11)))
    go true layout true fits es h = rw (h refl)
    go true layout false fits es h = refl
    go false true true true es h = refl
    go false true true false es h = refl
    go false true false fits es h = refl
    go false false named fits es h = refl

abbrev Sizes : List ℕ → calls.Started (calls.Erase Bool) → Type 0
Sizes m (calls.board e es) = (length m ≡ 128) × (get_or m 0 0 ≡ older_mark → fits_layout m ≡ true)
Sizes m (calls.start_refused k) = Unit {0}

ready-sized : (m : List ℕ) (n : Bool) → Sizes m (start_state m n)
unfolding mark
ready-sized m n =
    cond-by (Sizes m) (eqb (length m) 128 && eqb (get_or m 0 0) erase_mark) _ _
    (λ t. let b = both (eqb (length m) 128) (eqb (get_or m 0 0) erase_mark) t in
    let erasing = eqb-true (get_or m 0 0) erase_mark b.1 in
    cond-by (Sizes m) n _ _ (λ _. (eqb-true (length m) 128 b.0, λ q. absurd (omega arith))) (λ _. tt))
    (λ _. cond-by (Sizes m) (eqb (length m) 128 && is_layout (get_or m 0 0)) _ _
    (λ t. cond-by (Sizes m) (n && fits_layout m) _ _
    (λ u. (eqb-true (length m) 128 (both (eqb (length m) 128) _ t).0, λ q. (both n (fits_layout m) u).1)) (λ _. tt)) (λ _. tt))

module _ (id : ℕ) (serial model m : List ℕ) (s : Result Erase Refusal) (n : Bool) (named : n ≡ identity_fits id (length serial) (length model))
    (told : start_state_as s ≡ start_state m n) where
  same-named : n ≡ is_identity (given_identity id serial model)
  unfolding is_identity
  same-named = named

  -- a board is started on 128 bytes alone, which what is stored fits
  pub sized : (e : Erase) → s ≡ Ok e → length m ≡ 128
  sized e q = (subst (Sizes m) (sym told ∙ ap start_state_as q) (ready-sized m n)).0

  pub convertible : (e : Erase) → s ≡ Ok e → get_or m 0 0 ≡ older_mark → fits_layout m ≡ true
  convertible e q older = (subst (Sizes m) (sym told ∙ ap start_state_as q) (ready-sized m n)).1 older

  pub committable : (e : Erase) {es : List Entry} → s ≡ Ok e → es ≡ conversion m → Committable (length m) es
  committable e q is = rw (is, sized e q) (conversion-ready m)

  start_is : on_start board_kind (given_identity id serial model) m ≡ started_as (given_identity id serial model) (conversion m) (start_state_as s)
  start_is = start-told (given_identity id serial model) m ∙ rw (← same-named, told)

  pub refused-answer : (x : Refusal) → s ≡ Err x
      → start_refusal_of (Err x) ≡ start_refusal_in (on_start board_kind (given_identity id serial model) m)
  refused-answer x q = rw (start_is, q)

  pub ready-answer : (e : Erase) → s ≡ Ok e → start_refusal_of (Ok tt) ≡ start_refusal_in (on_start board_kind (given_identity id serial model) m)
  ready-answer e q = rw (start_is, q)

  pub refused-start : (x : Refusal) → s ≡ Err x → Starts (Err x) m m (on_start board_kind (given_identity id serial model) m)
  refused-start x q = rw (start_is, q) (record { started = refl; value = tt; store = refl })

  pub ready-start : (b : Board) (m' : List ℕ) (e : Erase) {es : List Entry}
      → b ≡ fresh_board (given_identity id serial model) e → m' ≡ applied es m → es ≡ conversion m → s ≡ Ok e
      → Starts (Ok b) m m' (on_start board_kind (given_identity id serial model) m)
  ready-start b m' e value stored is q =
      rw (start_is, q)
      (record { started = rw (value, fresh-state (given_identity id serial model) e); value = rw (erase-back e) value; store = stored ∙ rw is })

-- ---- a gap

module _ (b next : Board) (m : List ℕ) (entry : Result Bool Refusal) (told : Entered entry false (state_of b) m) (r : Receiver) where
  pub gap-gives : r ≡ emptied b.receiver → next ≡ with_receiver b r → entry ≡ Ok false
      → Gives (record { board = next; answer = Answer.Waiting }) m m [] (call_leaves gap b) (on_call board_kind gap (state_of b) m [])
  unfolding kind.does
  gap-gives empty is e =
      rw (← call-done_is gap b m [] entry false told refl e)
      (record { result = rw (is, empty, idle-erase b m entry false told e); value = is ∙ rw empty })

-- ---- a byte

-- a whole packet has all its bytes: it came past byte 7, and no more were to come
whole-filled : (held : List ℕ) (x : ℕ) (p : List ℕ) → (receive.accept held x).answer ≡ receive.whole p
    → (7 < length (held ++ (x ∷ []))) × (size (held ++ (x ∷ [])) ≤ length (held ++ (x ∷ [])))
unfolding receive.accept receive.behind receive.grown
whole-filled held x p =
    let g = held ++ (x ∷ []) in
    let W : receive.Receipt → Type 0 = λ r. r.answer ≡ receive.whole p → (7 < length g) × (size g ≤ length g) in
    cond-by W (eqb (length held) 0) _ _ (λ _. cond-by W (eqb x soh) _ _ (λ _ e. waits e) (λ _ e. refuses e))
    (λ _. cond-by W (ltb (length g) 7) _ _ (λ _ e. waits e)
    (λ s. cond-by W (eqb (length g) 7) _ _ (λ _. judged (judge.header_verdict g) (receive.keeps g) (λ e. waits e))
    (λ q. cond-by W (ltb (length g) (size g)) _ _ (λ _ e. waits e)
    (λ l. judged (judge.packet_verdict g) (receive.delivers g)
    (λ _. (omega (arith, ltb-false (length g) 7 s, eqb-false (length g) 7 q), ltb-false (length g) (size g) l))))))
  where
    waits : {A : Type 0} → receive.waiting ≡ receive.whole p → A
    waits e = let z : ◌≡◌ {A = ℕ} 0 1 = cc in absurd (omega arith)

    refuses : {A : Type 0} {n : ℕ} → receive.refused n ≡ receive.whole p → A
    refuses e = let z : ◌≡◌ {A = ℕ} 0 1 = cc in absurd (omega arith)

    judged : {A : Type 0} (v : judge.Verdict) (r : receive.Receipt) → (r.answer ≡ receive.whole p → A) → (receive.judged v r).answer ≡ receive.whole p → A
    judged judge.good r f e = f e
    judged (judge.refused n) r f e = refuses e

pub whole-told : (held : List ℕ) (x : ℕ) (p : List ℕ) → receive.is_proper_beginning held ≡ true → (receive.accept held x).answer ≡ receive.whole p → Whole p
whole-told held x p h e =
    let f = whole-filled held x p e in
    let g = one_more held x h (checkpoint held) refl in
    let w : Whole (held ++ (x ∷ [])) = record { least = omega (arith, g.least f.0, f.1); sized = omega (arith, g.most f.0, f.1) } in
    rw (whole_is held x p e) at w

-- ---- a packet

-- what a packet answers
abbrev Packeted : calls.Answer ℕ → Type 0
Packeted calls.waiting = ⊥
Packeted calls.silent = Unit {0}
Packeted calls.begun = Unit {0}
Packeted calls.more = ⊥
Packeted calls.ended = ⊥
Packeted (calls.refused n) = n ≡ 8
Packeted (calls.reply n) = Unit {0}

packeted : (i : Identity) (m p lent : List ℕ) → Packeted (on_packet i m p lent).answer
unfolding on_packet on_packet_to to_own to_all
packeted i m p lent = go (addressee i.id (get_or p 2 0))
  where
    own_told : (x : Effect) → Packeted (to_own i x lent).answer
    own_told (replies r es) = tt
    own_told begins = tt

    all_told : (x : Effect) → Packeted (to_all i x lent).answer
    all_told (replies r es) = tt
    all_told begins = tt

    go : (to : Addressee) → Packeted (on_packet_to to i m p lent).answer
    go own = own_told (effect i m (request_in (get_or p 4 0) (packet_text p)))
    go all = all_told (effect i m (request_in (get_or p 4 0) (packet_text p)))
    go another = refl

-- a packet leaves the receiver with its last byte, and empty
packet-leaves : (b : Board) (x : ℕ) (next : Board) (s : BoardState) (y : calls.Answer ℕ) → next ≡ with_receiver b (with_byte b.receiver x 0)
    → Packeted y → packet_leaves_by next s y ≡ byte_leaves b x s y
unfolding changes_nothing
packet-leaves b x next s calls.silent e h = e
packet-leaves b x next s calls.begun e h = refl
packet-leaves b x next s (calls.refused n) e h = e ∙ rw h
packet-leaves b x next s (calls.reply n) e h = e
packet-leaves b x next s calls.waiting e h = elim h [ ]
packet-leaves b x next s calls.more e h = elim h [ ]
packet-leaves b x next s calls.ended e h = elim h [ ]

with-either : (b : Board) (r : Receiver) (t : Bool) → with_receiver b (cond t b.receiver r) ≡ cond t b (with_receiver b r)
with-either b r true = refl
with-either b r false = refl

-- what a packet did, in code
module _ (b : Board) (r : packets.Planned) (m lent lent' : List ℕ) (o : BoardOutcome)
    (told : outcome_of r (state_of b).ident lent' ≡ o) where
  pub acted_begun : (owed : Bool) → r.acted ≡ Acted.Begun owed → (made next : Board)
      → made ≡ fresh_board (state_of b).ident (Erase.Pending 1 owed) → next ≡ made
      → (z : Answer) → answer_of z ≡ answer_after r.acted → Plans (record { board = next; answer = z; plan = r.plan }) lent' (packet_leaves b) o
  acted_begun owed e made next fresh is z says =
      rw (← told, e) (record { outcome = rw (is, fresh, fresh-state (state_of b).ident (Erase.Pending 1 owed), says, e); value = is ∙ fresh })

  pub acted_other : ((owed : Bool) → r.acted ≡ Acted.Begun owed → ⊥) → b.erase ≡ Erase.Idle → b.receiver.len ≡ 0 → (next : Board) → next ≡ b
      → (z : Answer) → answer_of z ≡ answer_after r.acted → Plans (record { board = next; answer = z; plan = r.plan }) lent' (packet_leaves b) o
  acted_other k rested none next is z says =
      rw (← told)
      (record {
        outcome = rw (is, says, rested, none, other-erase r.acted k);
        value = is ∙ other-leaves r.acted k;
      })
    where
      other-erase : (x : Acted) → ((owed : Bool) → x ≡ Acted.Begun owed → ⊥) → erase_after x ≡ idle
      other-erase Acted.Refused k = refl
      other-erase Acted.Silent k = refl
      other-erase (Acted.Begun owed) k = absurd (k owed refl)
      other-erase (Acted.Reply n) k = refl

      other-leaves : (x : Acted) → ((owed : Bool) → x ≡ Acted.Begun owed → ⊥) → b ≡ packet_leaves_by b (record { ident = (state_of b).ident; held = []; erase = erase_after x }) (answer_after x)
      other-leaves Acted.Refused k = refl
      other-leaves Acted.Silent k = refl
      other-leaves (Acted.Begun owed) k = absurd (k owed refl)
      other-leaves (Acted.Reply n) k = refl

module _ (b : Board) (wanted : ℕ) (m lent : List ℕ) (a : Accepting b wanted m lent) where
  rests : Resting (state_of b).ident (state_of b).held m
  rests = resting (state_of b) m (ap erase_of a.idle) a.sound

  pub held-proper : receive.is_proper_beginning (held_of b.receiver) ≡ true
  held-proper = rests.proper

  pub wanted_next : wanted ≡ checkpoint (held_of b.receiver)
  wanted_next = a.wants ∙ asked-proper (held_of b.receiver) held-proper

  module _ (x : ℕ) (r : Received) (told : receipt r ≡ receive.accept (held_of b.receiver) x)
      (left : r.receiver ≡ receiver_after b.receiver x (receive.accept (held_of b.receiver) x).answer)
      (next : Board) (is : next ≡ with_receiver b r.receiver) (y : Reception) (e : r.answer ≡ y) where
    does-is : kind.does (byte x) (state_of b) m lent ≡ kind.on_receipt (reception_in y r.receiver.held) (held_of r.receiver) (state_of b).ident m lent
    unfolding kind.does
    does-is = rw (← told, e)

    -- the receiver's answer, and what it leaves
    answer-is : (receive.accept (held_of b.receiver) x).answer ≡ reception_in y r.receiver.held
    answer-is = ap (λ (z : receive.Receipt). z.answer) (sym told) ∙ ap (λ (w : Reception). reception_in w r.receiver.held) e

    left_is : next ≡ with_receiver b (receiver_after b.receiver x (reception_in y r.receiver.held))
    left_is = is ∙ ap (with_receiver b) (left ∙ ap (receiver_after b.receiver x) answer-is)

    answered : (p : Planned) (z : Answer) → Planning p next z []
        → planned_outcome p lent ≡ record { answer = answer_of z; state = holding (state_of b).ident (held_of r.receiver); stores = []; buffer = lent }
    answered p z planned = rw (planned.board, planned.answer, planned.stores, is, a.idle)

  module _ (x : ℕ) (r : Received) (told : receipt r ≡ receive.accept (held_of b.receiver) x)
      (left : r.receiver ≡ receiver_after b.receiver x (receive.accept (held_of b.receiver) x).answer)
      (next : Board) (is : next ≡ with_receiver b r.receiver) where
    pub waits-plans : (p : Planned) → r.answer ≡ Reception.Waiting → Planning p next Answer.Waiting []
        → Plans p lent (call_leaves (byte x) b) (kind.does (byte x) (state_of b) m lent)
    unfolding kind.on_receipt
    waits-plans p e planned =
        rw (does-is x r told left next is Reception.Waiting e)
        (record {
          outcome = answered x r told left next is Reception.Waiting e p Answer.Waiting planned;
          value = planned.board ∙ left_is x r told left next is Reception.Waiting e;
        })

    pub declines_plans : (p : Planned) (n : Refusal) → r.answer ≡ Reception.Refused n → Planning p next (Answer.Refused n) []
        → Plans p lent (call_leaves (byte x) b) (kind.does (byte x) (state_of b) m lent)
    unfolding kind.on_receipt
    declines_plans p n e planned =
        rw (does-is x r told left next is (Reception.Refused n) e)
        (record {
          outcome = answered x r told left next is (Reception.Refused n) e p (Answer.Refused n) planned;
          value = planned.board ∙ left_is x r told left next is (Reception.Refused n) e ∙ with-either b (with_byte b.receiver x 0) (changes_nothing (number_of n));
        })

    module _ (n : ℕ) (e : r.answer ≡ Reception.Whole n) where
      made : next ≡ with_receiver b (with_byte b.receiver x 0)
      made = left_is x r told left next is (Reception.Whole n) e

      pub acts-plans : (p : Planned) (lent' : List ℕ)
          → Plans p lent' (packet_leaves next) (on_packet (state_of next).ident m (take n next.receiver.held) lent)
          → Plans p lent' (call_leaves (byte x) b) (kind.does (byte x) (state_of b) m lent)
      unfolding kind.on_receipt
      acts-plans p lent' h =
          let o = on_packet (state_of b).ident m (take n r.receiver.held) lent in
          let g : Plans p lent' (packet_leaves next) o
          = subst (λ (z : Board). Plans p lent' (packet_leaves next) (on_packet (state_of z).ident m (take n z.receiver.held) lent)) is h in
          rw (does-is x r told left next is (Reception.Whole n) e)
          (record { outcome = g.outcome; value = g.value ∙ packet-leaves b x next o.state o.answer made (packeted (state_of b).ident m _ lent) })

      pub acting : WholeOf r.answer (b.receiver.len + 1) → Acting next n m lent
      acting counted =
          let i = named_told (state_of b).ident rests.named in
          let short = count-short b.receiver.len b.receiver.held a.sized.held held-proper in
          let k : n ≡ b.receiver.len + 1 = rw e at counted in
          let w : Whole (take n r.receiver.held)
          = whole-told (held_of b.receiver) x _ held-proper (answer-is x r told left next is (Reception.Whole n) e) in
          record {
            addressed = rw is (record {
              serving = record {
                known = i.most;
                few = record {
                  serial_few = count-few b.identity.serial a.sized.serial i.serial;
                  model_few = count-few b.identity.model a.sized.model i.model;
                };
                ready = record { size = rests.size; ranged = rests.ranged };
              };
              room = a.room;
            });
            sized = rw made (record { serial = a.sized.serial; model = a.sized.model; held = simp length-set a.sized.held });
            idle = rw is a.idle;
            none = rw made refl;
            within = omega arith;
            whole = rw is w;
          }

-- ---- a plan that is committed

module _ (p : Planned) (m lent lent' : List ℕ) (b : Board) where
  pub call-plan_fits : (c : Call) → Plans p lent' (call_leaves c b) (on_call board_kind c (state_of b) m lent) → Committable (length m) (stores_of p.plan)
  call-plan_fits c h = subst (λ (o : BoardOutcome). Committable (length m) o.stores) (sym h.outcome) (call-committable c (state_of b) m lent)

  pub step-plan_fits : Plans p lent' (step_leaves b) (on_step board_kind (state_of b) m lent) → Committable (length m) (stores_of p.plan)
  step-plan_fits h = subst (λ (o : BoardOutcome). Committable (length m) o.stores) (sym h.outcome) (step-committable (state_of b) m lent)
