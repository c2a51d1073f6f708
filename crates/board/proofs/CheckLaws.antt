-- The checks of each call are those that demand 1 writes out in numbers: soundness, the header and the packet, and the first check that fails.
use mathlib.Core.Path.{◌≡◌, refl, sym, ◌∙◌}
use mathlib.Core.Bool.{Bool, true, false, cond, not, ◌&&◌, ◌||◌, and-false, true≢false}
use mathlib.Core.List.{List, [], ◌∷◌, ◌++◌}
use mathlib.Core.Logic.{◌≢◌}
use mathlib.Core.Option.{Option, none, some}
use Prim.Native.Nat.{ℕ, ◌+◌, ◌≤◌, ◌<◌}
use native.Mathlib.Omega.{arith}
use lib.Dec.{ltb, eqb}
use lib.ListN.{length, get_or, length-append}
use borrow.Author.Tests.{eqb-true, eqb-false, ltb-true, ltb-false, ne_eqb, le-ltb, lt-ltb, le-leb, lt-leb}
use Rattle.bitfield.specs.Field.{get_field}
use Rattle.plan.specs.Stores.{Entry}
use Rattle.wire.specs.Digits.{two_at}
use Rattle.wire.specs.Packet.{soh, size, check_code, packet_text}
use Rattle.wire.specs.Judge as judge
use Rattle.wire.proofs.Tests.{cond-by}
use Rattle.messages.specs.Read.{request_in}
use Rattle.receiver.specs.Receive as receive
use Rattle.store.specs.Layout.{fields_in_range}
use Rattle.layouts.specs.Layouts.{in_range, fits_layout, conversion, unused_store}
use Rattle.schedule.specs.Programs.{first_in_range, programs_in_range, is_time}
use Rattle.schedule.proofs.TimeLaws.{time_as}
use Rattle.calls.specs.Board.{Identity, waiting, Erase, idle, pending, is_pending, Started, board, start_refused}
use Rattle.calls.specs.Calls.{mark, first_bytes, erasing, is_short, is_sound_as, is_sound, entry_check, entry_check_of, refuse, call_on, on_call, step_on, on_step, on_start, erase_step, clear_step, end_step}
use Rattle.calls.proofs.Steps.{step-clears_or_ends}
use Rattle.board.proofs.PacketFed.{call-done}
use Rattle.board.proofs.BoardLaws.{nothing_is, whole_is}
use Rattle.actions.specs.Act.{Effect, replies, begins, effect}
use Rattle.packets.specs.Packets.{BoardState, BoardOutcome, answers, is_identity, own, all, another, addressee, to_own, to_all, on_packet_to, on_packet}
use Rattle.board.specs.BoardKind.{byte, gap, last_answer, on_receipt, start_other, board_kind}
use Rattle.board.specs.BoardKind as board
use Rattle.wire.specs.Checks.{Check, first_failed}
use Rattle.board.specs.View.{start_refusal_in}
use Rattle.board.specs.Demand1.{
  refusal_in,
  is_type,
  is_l,
  header_checks,
  is_whole,
  packet_checks,
  ranges,
  all_in_range,
  times,
  all_times,
  is_known,
  is_beginning,
  is_sound_by,
  is_sound_board,
  byte_checks,
  gap_checks,
  step_checks,
  start_checks,
  started_state,
  start_stores,
}

-- ---- soundness

fields-as : (m : List ℕ) → fields_in_range m ≡ all_in_range m ranges
unfolding fields_in_range all_in_range
fields-as m = refl

-- seven programs of two times each are fourteen times
regrouped : (a b c d e f g h i j k l m n : Bool)
    → (((((((true && (a && b)) && (c && d)) && (e && f)) && (g && h)) && (i && j)) && (k && l)) && (m && n))
    ≡ (a && (b && (c && (d && (e && (f && (g && (h && (i && (j && (k && (l && (m && (n && true))))))))))))))
regrouped false b c d e f g h i j k l m n = refl
regrouped true false c d e f g h i j k l m n = refl
regrouped true true false d e f g h i j k l m n = refl
regrouped true true true false e f g h i j k l m n = refl
regrouped true true true true false f g h i j k l m n = refl
regrouped true true true true true false g h i j k l m n = refl
regrouped true true true true true true false h i j k l m n = refl
regrouped true true true true true true true false i j k l m n = refl
regrouped true true true true true true true true false j k l m n = refl
regrouped true true true true true true true true true false k l m n = refl
regrouped true true true true true true true true true true false l m n = refl
regrouped true true true true true true true true true true true false m n = refl
regrouped true true true true true true true true true true true true false n = refl
regrouped true true true true true true true true true true true true true false = refl
regrouped true true true true true true true true true true true true true true = refl

-- the time that begins at a bit
abbrev time_at : List ℕ → ℕ → Bool
time_at m at = is_time (get_field m at 5) (get_field m (at + 5) 6)

times-as : (m : List ℕ) → programs_in_range m ≡ all_times m times
unfolding first_in_range all_times
times-as m =
    regrouped (time_at m 352) (time_at m 363) (time_at m 392) (time_at m 403) (time_at m 432) (time_at m 443) (time_at m 472)
    (time_at m 483) (time_at m 512) (time_at m 523) (time_at m 552) (time_at m 563) (time_at m 592) (time_at m 603)
    ∙ simp time_as

in_range_law : (m : List ℕ) → in_range m ≡ (all_in_range m ranges && all_times m times)
unfolding in_range
in_range_law m = rw (fields-as m, times-as m)

limits-as : (l : Option ℕ) → judge.in_limits l ≡ is_l l
limits-as (some l) = refl
limits-as none = refl

-- a header passes where each of its tests does
header-good : (a b c d : Bool)
    → receive.is_good (cond (not a) (judge.refused 2) (cond (not b) (judge.refused 2) (cond (not c) (judge.refused 3) (cond (not d) (judge.refused 4) judge.good))))
    ≡ (a && b && c && d)
header-good false b c d = refl
header-good true false c d = refl
header-good true true false d = refl
header-good true true true false = refl
header-good true true true true = refl

beginning_as : (held : List ℕ) → receive.is_proper_beginning held ≡ is_beginning held
unfolding receive.is_proper_beginning judge.header_verdict judge.is_length
beginning_as held =
    let good = header-good (eqb (get_or held 1 0) 0x30) (eqb (get_or held 3 0) 0x30) (is_type (get_or held 4 0)) (judge.in_limits (two_at held 5)) in
    rw (good, limits-as)

grouped : (marked fields programs proper : Bool) → (marked && (fields && programs) && proper) ≡ (marked && fields && programs && proper)
grouped false fields programs proper = refl
grouped true fields programs proper = refl

sound-by : (e : Erase Bool) (held m : List ℕ) → is_sound_as board_kind e held m ≡ is_sound_by e held m
unfolding is_sound_as mark first_bytes unused_store
sound-by idle held m = rw (in_range_law m, beginning_as held) (grouped (eqb (get_or m 0 0) 0x01) (all_in_range m ranges) (all_times m times) (is_beginning held))
sound-by (pending p owed) held m = refl

pub sound-as : (s : BoardState) (m : List ℕ) → is_sound board_kind s m ≡ is_sound_board s m
unfolding is_sound is_sound_board is_identity
sound-as s m = rw (sound-by s.erase s.held m)

-- ---- checks that don't fail

module _ (g : List ℕ) (cs : List Check) where
  -- away from byte 7
  no_header : eqb (length g) 7 ≡ false → first_failed (header_checks g ++ cs) ≡ first_failed cs
  unfolding first_failed header_checks
  no_header e = rw e

  -- and before all bytes are there
  no_packet : (id : ℕ) → is_whole g ≡ false → first_failed (packet_checks id g ++ cs) ≡ first_failed cs
  unfolding first_failed packet_checks
  no_packet id e = rw e

-- ---- what the receiver refuses, and what a packet does

-- the number of a refusal by the receiver; of a whole packet what is said of it
abbrev told : receive.Reception → Option ℕ → Option ℕ
told receive.waiting k = none
told (receive.refused n) k = some n
told (receive.whole p) k = k

-- neither the own address nor ALL
abbrev destination_refusal : ℕ → List ℕ → Option ℕ
destination_refusal id g = cond (not (eqb (get_or g 2 0) (0x40 + id) || eqb (get_or g 2 0) 0x2A)) (some 8) none

header-first : (a b c d : Bool) (g : List ℕ) (k : Option ℕ)
    → told (receive.judged (cond (not a) (judge.refused 2) (cond (not b) (judge.refused 2) (cond (not c) (judge.refused 3) (cond (not d) (judge.refused 4) judge.good)))) (receive.keeps g)).answer k
    ≡ cond (not (a && b)) (some 2) (cond (not c) (some 3) (cond (not d) (some 4) none))
header-first false b c d g k = refl
header-first true false c d g k = refl
header-first true true false d g k = refl
header-first true true true false g k = refl
header-first true true true true g k = refl

packet-first : (a b c : Bool) (g : List ℕ) (k : Option ℕ)
    → told (receive.judged (cond (not a) (judge.refused 5) (cond (not b) (judge.refused 6) (cond (not c) (judge.refused 7) judge.good))) (receive.delivers g)).answer k
    ≡ cond (not a) (some 5) (cond (not b) (some 6) (cond (not c) (some 7) k))
packet-first false b c g k = refl
packet-first true false c g k = refl
packet-first true true false g k = refl
packet-first true true true g k = refl

module _ (id : ℕ) (g : List ℕ) where
  abbrev Tells : receive.Receipt → Type 0
  Tells r = told r.answer (destination_refusal id g) ≡ first_failed (header_checks g ++ packet_checks id g)

  neither : eqb (length g) 7 ≡ false → is_whole g ≡ false → first_failed (header_checks g ++ packet_checks id g) ≡ none
  unfolding first_failed header_checks packet_checks
  neither e f = rw (e, f)

  header-tells : eqb (length g) 7 ≡ true → Tells (receive.judged (judge.header_verdict g) (receive.keeps g))
  unfolding first_failed header_checks packet_checks judge.header_verdict judge.is_length
  header-tells e =
      let z : ltb 7 (length g) ≡ false = le-ltb 7 (length g) (omega (arith, eqb-true (length g) 7 e)) in
      rw (e, z, header-first, limits-as)

  packet-tells : eqb (length g) 7 ≡ false → is_whole g ≡ true → Tells (receive.judged (judge.packet_verdict g) (receive.delivers g))
  unfolding first_failed header_checks packet_checks judge.packet_verdict judge.ends_in_return judge.has_check_code judge.is_message check_code
  packet-tells e f = rw (e, f, packet-first)

  not_all : length g < size g → is_whole g ≡ false
  not_all h = rw (lt-leb (size g) (length g) h, and-false)

  all_there : 7 ≤ length g → length g ≢ 7 → size g ≤ length g → is_whole g ≡ true
  all_there h n k = rw (lt-ltb 7 (length g) (omega (arith, n, h)), le-leb (size g) (length g) k)

  grown-tells : Tells (receive.grown g)
  unfolding receive.grown
  grown-tells =
      cond-by Tells (ltb (length g) 7) _ _ (λ t. let h = ltb-true (length g) 7 t in
      sym (neither (ne_eqb (length g) 7 (λ q. omega arith)) (rw (le-ltb 7 (length g) (omega arith)))))
      (λ t. let h = ltb-false (length g) 7 t in
      cond-by Tells (eqb (length g) 7) _ _ header-tells
      (λ u. let n = eqb-false (length g) 7 u in
      cond-by Tells (ltb (length g) (size g)) _ _ (λ v. let k = ltb-true (length g) (size g) v in sym (neither u (not_all k)))
      (λ v. packet-tells u (all_there h n (ltb-false (length g) (size g) v)))))

-- the first check of a byte, and those of what is then held
accept-tells : (id : ℕ) (held : List ℕ) (b : ℕ)
    → told (receive.accept held b).answer (destination_refusal id (held ++ (b ∷ [])))
    ≡ first_failed ((eqb (length held) 0 && not (eqb b 0x01), 1) ∷ header_checks (held ++ (b ∷ [])) ++ packet_checks id (held ++ (b ∷ [])))
unfolding receive.accept receive.behind first_failed
accept-tells id held b = go (eqb (length held) 0) refl
  where
    g : List ℕ
    g = held ++ (b ∷ [])

    alone : length held ≡ 0 → length g ≡ 1
    alone e = rw (length-append) (omega arith)

    begins-alone : length held ≡ 0 → (t : Bool)
        → told (cond t (receive.keeps (b ∷ [])) (receive.refuses 1)).answer (destination_refusal id g)
        ≡ cond (not t) (some 1) (first_failed (header_checks g ++ packet_checks id g))
    begins-alone e true =
        let z = alone e in
        sym (neither id g (ne_eqb (length g) 7 (λ q. omega arith)) (rw (le-ltb 7 (length g) (omega arith))))
    begins-alone e false = refl

    go : (t : Bool) → eqb (length held) 0 ≡ t
        → told (cond t (receive.begin b) (receive.grown g)).answer (destination_refusal id g)
        ≡ cond (t && not (eqb b 0x01)) (some 1) (first_failed (header_checks g ++ packet_checks id g))
    go true e = begins-alone (eqb-true (length held) 0 e) (eqb b 0x01)
    go false e = grown-tells id g

-- what a packet is refused with: 8
abbrev Named : (id dest : ℕ) → BoardOutcome → Type 0
Named id dest o = refusal_in o.answer ≡ cond (not (eqb dest (0x40 + id) || eqb dest 0x2A)) (some 8) none

module _ (i : Identity) (m lent : List ℕ) where
  effect-named : (p : List ℕ) (x : Effect) → effect i m (request_in (get_or p 4 0) (packet_text p)) ≡ x → Named i.id (get_or p 2 0) (on_packet i m p lent)
  unfolding on_packet on_packet_to addressee to_own to_all
  effect-named p x is = go (eqb (get_or p 2 0) (0x40 + i.id)) (eqb (get_or p 2 0) 0x2A) x is
    where
      go : (mine every : Bool) (x : Effect) → effect i m (request_in (get_or p 4 0) (packet_text p)) ≡ x
          → refusal_in (on_packet_to (cond mine own (cond every all another)) i m p lent).answer ≡ cond (not (mine || every)) (some 8) none
      go true every (replies r es) is = rw is
      go true every begins is = rw is
      go false true (replies r es) is = rw is
      go false true begins is = rw is
      go false false x is = refl

  receipt-named : (a : receive.Reception) (held g : List ℕ) → ((p : List ℕ) → a ≡ receive.whole p → g ≡ p)
      → refusal_in (on_receipt a held i m lent).answer ≡ told a (destination_refusal i.id g)
  unfolding on_receipt
  receipt-named receive.waiting held g f = refl
  receipt-named (receive.refused n) held g f = refl
  receipt-named (receive.whole p) held g f = rw (f p refl) (effect-named p _ refl)

-- ---- each call

module _ (s : BoardState) (m lent : List ℕ) where
  byte-does : (b : ℕ) → refusal_in (board.does (byte b) s m lent).answer
      ≡ first_failed ((eqb (length s.held) 0 && not (eqb b 0x01), 1) ∷ header_checks (s.held ++ (b ∷ [])) ++ packet_checks s.ident.id (s.held ++ (b ∷ [])))
  unfolding board.does
  byte-does b = receipt-named s.ident m lent _ _ (s.held ++ (b ∷ [])) (whole_is s.held b) ∙ accept-tells s.ident.id s.held b

  pub byte_checked : (b : ℕ) → refusal_in (on_call board_kind (byte b) s m lent).answer ≡ first_failed (byte_checks b s m lent)
  unfolding on_call call_on entry_check_of entry_check is_short refuse byte_checks first_failed
  byte_checked b = rw (← sound-as s m) (go (ltb (length lent) 64) (is_sound board_kind s m) s.erase)
    where
      go : (short sound : Bool) (e : Erase Bool)
          → refusal_in (call_on board_kind (entry_check short sound (is_pending e)) (byte b) s m lent).answer
          ≡ first_failed ((short, 10) ∷ (not sound, 12) ∷ (is_pending e, 9)
          ∷ (eqb (length s.held) 0 && not (eqb b 0x01), 1) ∷ header_checks (s.held ++ (b ∷ [])) ++ packet_checks s.ident.id (s.held ++ (b ∷ [])))
      go true sound e = refl
      go false false e = refl
      go false true idle = byte-does b
      go false true (pending p owed) = refl

  pub gap_checked : refusal_in (on_call board_kind gap s m lent).answer ≡ first_failed (gap_checks s m)
  unfolding on_call call_on entry_check_of entry_check refuse gap_checks first_failed board.does
  gap_checked = rw (← sound-as s m) (go (is_sound board_kind s m) s.erase)
    where
      go : (sound : Bool) (e : Erase Bool)
          → refusal_in (call_on board_kind (entry_check false sound (is_pending e)) gap s m lent).answer ≡ first_failed ((not sound, 12) ∷ (is_pending e, 9) ∷ [])
      go false e = refl
      go true idle = refl
      go true (pending p owed) = refl

  last-told : (owed : Bool) → refusal_in (last_answer s.ident owed) ≡ none
  last-told true = refl
  last-told false = refl

  erase-told : (p : ℕ) (owed : Bool) → refusal_in (erase_step board_kind p owed s lent).answer ≡ none
  unfolding clear_step end_step
  erase-told p owed = step-clears_or_ends board_kind (λ o. refusal_in o.answer ≡ none) p owed s lent (λ _. refl) (λ _. last-told owed)

  pub step_checked : refusal_in (on_step board_kind s m lent).answer ≡ first_failed (step_checks s m lent)
  unfolding on_step step_on entry_check_of entry_check is_short refuse step_checks first_failed
  step_checked = rw (← sound-as s m) (go (ltb (length lent) 64) (is_sound board_kind s m) s.erase refl)
    where
      go : (short sound : Bool) (e : Erase Bool) → s.erase ≡ e
          → refusal_in (step_on board_kind (entry_check short sound (is_pending e)) s lent).answer ≡ first_failed ((short, 10) ∷ (not sound, 12) ∷ (not (is_pending e), 13) ∷ [])
      go true sound e q = refl
      go false false e q = refl
      go false true idle q = refl
      go false true (pending p owed) q = erase-told _ _

fits-as : (m : List ℕ) → fits_layout m ≡ cond (eqb (get_or m 0 0) 0x00) (all_in_range m ranges) (all_in_range m ranges && all_times m times)
unfolding fits_layout
fits-as m = rw (in_range_law m, fields-as m)

pub start_checked : (i : Identity) (m : List ℕ) → start_refusal_in (on_start board_kind i m) ≡ first_failed (start_checks i m)
unfolding on_start start_other start_checks first_failed mark is_identity
start_checked i m =
    rw (fits-as m)
    (go _ _ _ (eqb (length m) 128) (eqb (get_or m 0 0) 0xE7) (eqb (get_or m 0 0) 0x00) (eqb (get_or m 0 0) 0x01) (is_known i) (all_in_range m ranges) (all_times m times))
  where
    go : (s t : BoardState) (es : List Entry) (sized erases older current known fields programs : Bool)
        → start_refusal_in
        (cond (sized && erases) (cond known (board s []) (start_refused 12))
        (cond (sized && (older || current)) (cond (known && cond older fields (fields && programs)) (board t es) (start_refused 12)) (start_refused 11)))
        ≡ first_failed ((not (sized && (older || (current || erases))), 11) ∷ (not (known && (erases || (fields && (older || programs)))), 12) ∷ [])
    go s t es false erases older current known fields programs = refl
    go s t es true true true current true fields programs = refl
    go s t es true true true current false fields programs = refl
    go s t es true true false true true fields programs = refl
    go s t es true true false true false fields programs = refl
    go s t es true true false false true fields programs = refl
    go s t es true true false false false fields programs = refl
    go s t es true false true current true true programs = refl
    go s t es true false true current true false programs = refl
    go s t es true false true current false fields programs = refl
    go s t es true false false true true true true = refl
    go s t es true false false true true true false = refl
    go s t es true false false true true false programs = refl
    go s t es true false false true false fields programs = refl
    go s t es true false false false known fields programs = refl

-- a store has one mark
one-mark : (m : List ℕ) → eqb (get_or m 0 0) 0xE7 ≡ true → eqb (get_or m 0 0) 0x00 ≡ false
one-mark m e = let is = eqb-true (get_or m 0 0) 0xE7 e in ne_eqb (get_or m 0 0) 0x00 (λ q. omega arith)

pub start_given : (i : Identity) (m : List ℕ) → first_failed (start_checks i m) ≡ none → on_start board_kind i m ≡ board (started_state i m) (start_stores m)
unfolding on_start start_other start_checks first_failed mark is_identity erasing conversion
start_given i m =
    rw (fits-as m)
    (go _ (eqb (length m) 128) (eqb (get_or m 0 0) 0xE7) (eqb (get_or m 0 0) 0x00) (eqb (get_or m 0 0) 0x01) (is_known i) (all_in_range m ranges) (all_times m times) (one-mark m))
  where
    started : Erase Bool → List Entry → Started BoardState
    started e es = board (record { ident = i; held = []; erase = e }) es

    go : (es : List Entry) (sized erases older current known fields programs : Bool) → (erases ≡ true → older ≡ false)
        → first_failed ((not (sized && (older || (current || erases))), 11) ∷ (not (known && (erases || (fields && (older || programs)))), 12) ∷ []) ≡ none
        → cond (sized && erases) (cond known (started (pending 1 false) []) (start_refused 12))
        (cond (sized && (older || current)) (cond (known && cond older fields (fields && programs)) (started idle (cond older es [])) (start_refused 12)) (start_refused 11))
        ≡ started (cond erases (pending 1 false) idle) (cond older es [])
    go es false erases older current known fields programs one h = cc
    go es true true true current known fields programs one h = absurd (true≢false (one refl))
    go es true true false true true fields programs one h = refl
    go es true true false true false fields programs one h = cc
    go es true true false false true fields programs one h = refl
    go es true true false false false fields programs one h = cc
    go es true false true current true true programs one h = refl
    go es true false true current true false programs one h = cc
    go es true false true current false fields programs one h = cc
    go es true false false true true true true one h = refl
    go es true false false true true true false one h = cc
    go es true false false true true false programs one h = cc
    go es true false false true false fields programs one h = cc
    go es true false false false known fields programs one h = cc

-- ---- what is held after a byte

-- the receiver holds the byte, or has the whole packet
module _ (id : ℕ) (g : List ℕ) where
  abbrev GoesOn : receive.Receipt → Type 0
  GoesOn r = told r.answer (destination_refusal id g) ≡ none → r ≡ cond (is_whole g) (receive.delivers g) (receive.keeps g)

  judged-goes_on : (v : judge.Verdict) (r : receive.Receipt) → (told r.answer (destination_refusal id g) ≡ none → r ≡ cond (is_whole g) (receive.delivers g) (receive.keeps g))
      → GoesOn (receive.judged v r)
  judged-goes_on judge.good r h = h
  judged-goes_on (judge.refused n) r h = λ e. cc

  grown-goes_on : GoesOn (receive.grown g)
  unfolding receive.grown
  grown-goes_on =
      cond-by GoesOn (ltb (length g) 7) _ _ (λ t _. let h = ltb-true (length g) 7 t in rw (le-ltb 7 (length g) (omega arith)))
      (λ t. let h = ltb-false (length g) 7 t in
      cond-by GoesOn (eqb (length g) 7) _ _
      (λ u. let n = eqb-true (length g) 7 u in judged-goes_on (judge.header_verdict g) (receive.keeps g) (λ _. rw (le-ltb 7 (length g) (omega arith))))
      (λ u. let n = eqb-false (length g) 7 u in
      cond-by GoesOn (ltb (length g) (size g)) _ _ (λ v _. rw (not_all id g (ltb-true (length g) (size g) v)))
      (λ v. judged-goes_on (judge.packet_verdict g) (receive.delivers g) (λ _. rw (all_there id g h n (ltb-false (length g) (size g) v))))))

accept-goes_on : (id : ℕ) (held : List ℕ) (b : ℕ) → GoesOn id (held ++ (b ∷ [])) (receive.accept held b)
unfolding receive.accept receive.behind
accept-goes_on id held b =
    let g = held ++ (b ∷ []) in
    cond-by (GoesOn id g) (eqb (length held) 0) _ _
    (λ t. rw (nothing_is held t) (cond-by (GoesOn id (b ∷ [])) (eqb b soh) _ _ (λ _ _. refl) (λ _ e. cc)))
    (λ _. grown-goes_on id g)

-- a call that no check refuses is what it does to a sound board with no erase pending
record Passes (short sound : Bool) (e : Erase Bool) (cs : List Check) : Type 0 where
  long : short ≡ false
  is_sound_law : sound ≡ true
  none_pending : e ≡ idle
  rest : first_failed cs ≡ none

passes : (short sound : Bool) (e : Erase Bool) (cs : List Check) → first_failed ((short, 10) ∷ (not sound, 12) ∷ (is_pending e, 9) ∷ cs) ≡ none → Passes short sound e cs
unfolding first_failed
passes true sound e cs h = let z : ◌≡◌ {A = ℕ} 0 1 = cc in absurd (omega arith)
passes false false e cs h = let z : ◌≡◌ {A = ℕ} 0 1 = cc in absurd (omega arith)
passes false true (pending p owed) cs h = let z : ◌≡◌ {A = ℕ} 0 1 = cc in absurd (omega arith)
passes false true idle cs h = record { long = refl; is_sound_law = refl; none_pending = refl; rest = h }

module _ (b : ℕ) (s : BoardState) (m lent : List ℕ) (h : first_failed (byte_checks b s m lent) ≡ none) where
  byte-passes : Passes (ltb (length lent) 64) (is_sound_board s m) s.erase
      ((eqb (length s.held) 0 && not (eqb b 0x01), 1) ∷ header_checks (s.held ++ (b ∷ [])) ++ packet_checks s.ident.id (s.held ++ (b ∷ [])))
  unfolding byte_checks
  byte-passes = passes _ _ _ _ h

  -- with the byte, the receiver holds one more or has the whole packet
  pub byte-goes_on : on_call board_kind (byte b) s m lent
      ≡ cond (is_whole (s.held ++ (b ∷ []))) (on_packet s.ident m (s.held ++ (b ∷ [])) lent) (answers waiting s.ident (s.held ++ (b ∷ [])) lent)
  unfolding board.does on_receipt is_short
  byte-goes_on =
      let p = byte-passes in
      let g = s.held ++ (b ∷ []) in
      let r : receive.accept s.held b ≡ cond (is_whole g) (receive.delivers g) (receive.keeps g) =
      accept-goes_on s.ident.id s.held b (accept-tells s.ident.id s.held b ∙ p.rest) in
      call-done (byte b) s m lent p.long (sound-as s m ∙ p.is_sound_law) p.none_pending
      ∙ rw r (cond-by (λ (x : receive.Receipt). on_receipt x.answer x.held s.ident m lent ≡ cond (is_whole g) (on_packet s.ident m g lent) (answers waiting s.ident g lent)) (is_whole g) _ _ (λ t. rw t) (λ t. rw t))
