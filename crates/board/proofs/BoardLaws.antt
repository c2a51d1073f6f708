-- This board keeps the laws of a kind: what a packet stores keeps the store in range, and what a byte leaves held is a proper beginning.
use mathlib.Core.Path.{◌≡◌, refl, ap, sym, ◌∙◌, subst}
use mathlib.Core.Bool.{Bool, true, false, ◌&&◌}
use mathlib.Core.List.{List, [], ◌∷◌, ◌++◌}
use mathlib.Core.Logic.{◌⊎◌, inl, inr, ◌≢◌}
use Prim.Native.Nat.{ℕ}
use native.Mathlib.Omega.{arith}
use lib.Dec.{ltb, eqb}
use lib.ListN.{length, get_or}
use borrow.Author.Tests.{eq-eqb, eqb-true}
use Rattle.plan.specs.Stores.{Entry, entry, applied}
use Rattle.plan.proofs.Laws.{applied-length}
use Rattle.wire.specs.Packet.{soh, address_of, all_address, packet_text, size}
use Rattle.wire.specs.Judge as judge
use Rattle.wire.proofs.Tests.{cond-by, both}
use Rattle.messages.specs.Message.{Reply}
use Rattle.messages.specs.Read.{request_in}
use Rattle.receiver.specs.Receive as receive
use Rattle.receiver.proofs.Laws.{accept-proper}
use Rattle.layouts.specs.Layouts.{layout_mark, is_layout, fits_layout, conversion, in_range, unused_store}
use Rattle.layouts.proofs.ConversionLaws.{fits-own, conversion-none}
use Rattle.layouts.proofs.UnusedLaws.{unused-length, unused_in-range}
use Rattle.calls.specs.Board.{Identity, Answer, waiting, silent, begun, refused, reply, Erase, idle, pending, board}
use Rattle.calls.specs.Calls.{mark, erase_mark, at_rest, erasing, is_sound_as, is_sound}
use Rattle.calls.proofs.Laws.{Startable, Settles, Begins, Laws}
use Rattle.actions.specs.Act.{Effect, replies, begins, effect}
use Rattle.packets.specs.Packets.{BoardState, BoardOutcome, holding, answers, is_identity, Addressee, own, all, another, addressee, to_own, to_all, on_packet_to, on_packet}
use Rattle.board.specs.BoardKind.{Call, byte, gap, on_receipt, does, owes, is_none, start_other, board_kind}
use Rattle.packets.proofs.EffectLaws.{Keeps, effect-keeps}

-- ---- a sound board with no erase pending

pub record Resting (i : Identity) (held m : List ℕ) : Type 0 where
  pub named : is_identity i ≡ true
  pub size : length m ≡ 128
  pub marked : mark m ≡ mark unused_store
  pub ranged : in_range m ≡ true
  pub proper : receive.is_proper_beginning held ≡ true

pub resting : (s : BoardState) (m : List ℕ) → s.erase ≡ idle → is_sound board_kind s m ≡ true → Resting s.ident s.held m
unfolding is_sound is_sound_as
resting s m q h =
    let x = both (is_identity s.ident && eqb (length m) 128) (is_sound_as board_kind s.erase s.held m) h in
    let y = both (is_identity s.ident) (eqb (length m) 128) x.0 in
    let a : is_sound_as board_kind idle s.held m ≡ true = subst (λ (e : Erase Bool). is_sound_as board_kind e s.held m ≡ true) q x.1 in
    let z = both (eqb (mark m) (mark unused_store) && in_range m) (receive.is_proper_beginning s.held) a in
    let w = both (eqb (mark m) (mark unused_store)) (in_range m) z.0 in
    record { named = y.0; size = eqb-true _ _ y.1; marked = eqb-true _ _ w.0; ranged = w.1; proper = z.1 }

pub resting-sound : {i : Identity} {held m : List ℕ} → Resting i held m → is_sound board_kind (holding i held) m ≡ true
unfolding is_sound is_sound_as
resting-sound r = simp (r.named, r.ranged, r.proper, eq-eqb _ _ r.size, eq-eqb _ _ r.marked)

pub nothing_proper : receive.is_proper_beginning [] ≡ true
unfolding receive.is_proper_beginning
nothing_proper = refl

pub nothing_is : (held : List ℕ) → is_none held ≡ true → held ≡ []
nothing_is [] e = refl
nothing_is (b ∷ held) e = let z = eqb-true (length (b ∷ held)) 0 e in absurd (omega arith)

-- with other bytes held, and after the stores of an effect
pub holds-others : {i : Identity} {held m : List ℕ} (other : List ℕ) → receive.is_proper_beginning other ≡ true → Resting i held m → Resting i other m
holds-others other h r = record { named = r.named; size = r.size; marked = r.marked; ranged = r.ranged; proper = h }

pub stores-kept : {i : Identity} {held m : List ℕ} {es : List Entry} → Keeps m es → Resting i held m → Resting i [] (applied es m)
unfolding mark
stores-kept {i} {held} {m} {es} k r =
    record { named = r.named; size = applied-length es m ∙ r.size; marked = k.mark ∙ r.marked; ranged = k.ranged; proper = nothing_proper }

-- ---- a whole packet is what was held and the byte

judged-whole : (g p : List ℕ) (v : judge.Verdict) (r : receive.Receipt) → (r.answer ≡ receive.whole p → g ≡ p) → (receive.judged v r).answer ≡ receive.whole p → g ≡ p
judged-whole g p judge.good r f e = f e
judged-whole g p (judge.refused n) r f e = cc

pub whole_is : (held : List ℕ) (b : ℕ) (p : List ℕ) → (receive.accept held b).answer ≡ receive.whole p → held ++ (b ∷ []) ≡ p
unfolding receive.accept receive.behind receive.grown
whole_is held b p =
    let g = held ++ (b ∷ []) in
    let W : receive.Receipt → Type 0 = λ r. r.answer ≡ receive.whole p → g ≡ p in
    cond-by W (eqb (length held) 0) _ _ (λ _. cond-by W (eqb b soh) _ _ (λ _ e. cc) (λ _ e. cc))
    (λ _. cond-by W (ltb (length g) 7) _ _ (λ _ e. cc)
    (λ _. cond-by W (eqb (length g) 7) _ _ (λ _. judged-whole g p (judge.header_verdict g) (receive.keeps g) (λ e. cc))
    (λ _. cond-by W (ltb (length g) (size g)) _ _ (λ _ e. cc) (λ _. judged-whole g p (judge.packet_verdict g) (receive.delivers g) (λ e. cc)))))

-- ---- whom a destination addresses

own_told : (i : Identity) (dest : ℕ) → addressee i.id dest ≡ own → eqb dest (address_of i.id) ≡ true
unfolding addressee
own_told i dest =
    cond-by (λ (a : Addressee). a ≡ own → eqb dest (address_of i.id) ≡ true) (eqb dest (address_of i.id)) _ _ (λ t _. t)
    (λ t. cond-by (λ (a : Addressee). a ≡ own → eqb dest (address_of i.id) ≡ true) (eqb dest all_address) _ _ (λ _ e. cc) (λ _ e. cc))

all_told : (i : Identity) (dest : ℕ) → addressee i.id dest ≡ all → eqb dest (address_of i.id) ≡ false
unfolding addressee
all_told i dest = cond-by (λ (a : Addressee). a ≡ all → eqb dest (address_of i.id) ≡ false) (eqb dest (address_of i.id)) _ _ (λ _ e. cc) (λ t _. t)

-- ---- every call

-- what holds of what a call leaves
abbrev Acts : Call → BoardState → List ℕ → List ℕ → BoardOutcome → Type 0
Acts c s m lent o = Settles board_kind m o ⊎ Begins board_kind c s lent o

module _ (c : Call) (s : BoardState) (m lent : List ℕ) (r : Resting s.ident s.held m) where
  settles : (a : Answer ℕ) (held : List ℕ) (es : List Entry) (buffer : List ℕ) → a ≢ begun → Resting s.ident held (applied es m)
      → Acts c s m lent (record { answer = a; state = holding s.ident held; stores = es; buffer = buffer })
  settles a held es buffer n h = inl (record { kept = resting-sound h; not_begun = n })

  answer-acts : (a : Answer ℕ) (held : List ℕ) → receive.is_proper_beginning held ≡ true → a ≢ begun → Acts c s m lent (answers a s.ident held lent)
  answer-acts a held h n = settles a held [] lent n (holds-others held h r)

  effect-rests : (p : List ℕ) {w : Reply} {es : List Entry} → effect s.ident m (request_in (get_or p 4 0) (packet_text p)) ≡ replies w es
      → Resting s.ident [] (applied es m)
  effect-rests p is = stores-kept (effect-keeps s.ident m (get_or p 4 0) (packet_text p) r.size r.ranged is) r

  begins-acts : (owed : Bool) → owed ≡ owes c s
      → Acts c s m lent (record { answer = begun; state = record { ident = s.ident; held = []; erase = pending 1 owed }; stores = entry 0 erase_mark ∷ []; buffer = lent })
  unfolding erasing
  begins-acts owed o = inr (record { state_is = ap (λ (owed : Bool). erasing board_kind s.ident 1 owed) o; stores_is = refl; buffer_is = refl })

  -- a packet for this board, for all, or for another
  packet-acts : (p : List ℕ) (to : Addressee) (x : Effect) → effect s.ident m (request_in (get_or p 4 0) (packet_text p)) ≡ x
      → (to ≡ own → true ≡ owes c s) → (to ≡ all → false ≡ owes c s) → Acts c s m lent (on_packet_to to s.ident m p lent)
  unfolding on_packet_to to_own to_all
  packet-acts p own (replies w es) is f g = rw is (settles (reply _) [] es _ (λ e. let z : ◌≡◌ {A = ℕ} 0 1 = cc in omega arith) (effect-rests p is))
  packet-acts p own begins is f g = rw is (begins-acts true (f refl))
  packet-acts p all (replies w es) is f g = rw is (settles silent [] es lent (λ e. let z : ◌≡◌ {A = ℕ} 0 1 = cc in omega arith) (effect-rests p is))
  packet-acts p all begins is f g = rw is (begins-acts false (g refl))
  packet-acts p another x is f g = answer-acts (refused 8) [] nothing_proper (λ e. let z : ◌≡◌ {A = ℕ} 0 1 = cc in omega arith)

  receipt-acts : (held : List ℕ) (a : receive.Reception) → receive.is_proper_beginning held ≡ true
      → ((p : List ℕ) → a ≡ receive.whole p → eqb (get_or p 2 0) (address_of s.ident.id) ≡ owes c s) → Acts c s m lent (on_receipt a held s.ident m lent)
  unfolding on_receipt on_packet
  receipt-acts held receive.waiting h f = answer-acts waiting held h (λ e. let z : ◌≡◌ {A = ℕ} 0 1 = cc in omega arith)
  receipt-acts held (receive.refused n) h f = answer-acts (refused n) held h (λ e. let z : ◌≡◌ {A = ℕ} 0 1 = cc in omega arith)
  receipt-acts held (receive.whole p) h f =
      packet-acts p (addressee s.ident.id (get_or p 2 0)) _ refl (λ e. sym (own_told s.ident (get_or p 2 0) e) ∙ f p refl) (λ e. sym (all_told s.ident (get_or p 2 0) e) ∙ f p refl)

call-acts : (c : Call) (s : BoardState) (m lent : List ℕ) → Resting s.ident s.held m → Acts c s m lent (does c s m lent)
unfolding does owes
call-acts (byte b) s m lent r =
    let e = accept-proper s.held b r.proper in
    receipt-acts (byte b) s m lent r _ _ e (λ p w. ap (λ (p : List ℕ). eqb (get_or p 2 0) (address_of s.ident.id)) (sym (whole_is s.held b p w)))
call-acts gap s m lent r = answer-acts gap s m lent r waiting [] nothing_proper (λ e. let z : ◌≡◌ {A = ℕ} 0 1 = cc in omega arith)

own_mark : (m : List ℕ) → mark m ≡ mark unused_store → get_or m 0 0 ≡ layout_mark
unfolding mark unused_store
own_mark m e = e

layout_own : is_layout (mark unused_store) ≡ true
unfolding mark unused_store
layout_own = refl

rest-starts : (i : Identity) (m : List ℕ) → Startable board_kind i m → start_other i m ≡ board (at_rest board_kind i) []
unfolding start_other at_rest
rest-starts i m a =
    let own : get_or m 0 0 ≡ layout_mark = own_mark m a.marked in
    let fits : fits_layout m ≡ true = fits-own m own ∙ a.ranged in
    let layout : is_layout (mark m) ≡ true = ap is_layout a.marked ∙ layout_own in
    let none : conversion m ≡ [] = conversion-none m (λ q. omega arith) in
    rw (a.named, fits, layout, none, eq-eqb _ _ a.size)

other_mark : mark unused_store ≢ erase_mark
unfolding mark unused_store
other_mark e = omega arith

pub board-laws : Laws board_kind
board-laws =
    record {
      size = unused-length;
      other_mark = other_mark;
      ranged = unused_in-range;
      nothing_yes = refl;
      nothing_is = nothing_is;
      nothing_proper = nothing_proper;
      starts = rest-starts;
      acts = λ c s m lent q h. call-acts c s m lent (resting s m q h);
    }
