-- What a refused call or step leaves: the receiver refuses with 1 to 7 and then holds nothing, a packet with 8, and every other refusal is by the checks.
use mathlib.Core.Path.{◌≡◌, refl, ap, sym, ◌∙◌}
use mathlib.Core.Bool.{Bool, true, false, cond, not, ◌&&◌}
use mathlib.Core.List.{List, [], ◌∷◌, ◌++◌}
use mathlib.Core.Logic.{◌⊎◌, inl, inr}
use Prim.Native.Nat.{ℕ, ◌≤◌}
use native.Mathlib.Omega.{arith}
use lib.Dec.{ltb, eqb}
use lib.ListN.{length, get_or}
use Rattle.wire.specs.Packet.{soh, zero_byte, size, packet_text}
use Rattle.wire.specs.Judge as judge
use Rattle.wire.proofs.Tests.{cond-by}
use Rattle.messages.specs.Read.{request_in}
use Rattle.receiver.specs.Receive as receive
use Rattle.calls.specs.Board.{Identity, refused, Erase, idle, pending, is_pending}
use Rattle.calls.specs.Calls.{is_short, is_sound, entry_check, entry_check_of, refuse, call_on, on_call, clear_step, end_step, erase_step, step_on, on_step}
use Rattle.calls.proofs.Steps.{step-clears_or_ends}
use Rattle.actions.specs.Act.{Effect, replies, begins, effect}
use Rattle.packets.specs.Packets.{BoardState, BoardOutcome, answers, Addressee, own, all, another, addressee, to_own, to_all, on_packet_to, on_packet}
use Rattle.board.specs.BoardKind.{Call, byte, gap, lends, on_receipt, last_answer, board_kind}
use Rattle.board.specs.BoardKind as board
use Rattle.board.proofs.BoardLaws.{nothing_is}

-- ---- the receiver's refusals

abbrev Numbered : judge.Verdict → Type 0
Numbered judge.good = Unit {0}
Numbered (judge.refused n) = (2 ≤ n) × (n ≤ 7)

tested : (t : Bool) (n : ℕ) (v : judge.Verdict) → 2 ≤ n → n ≤ 7 → Numbered v → Numbered (cond (not t) (judge.refused n) v)
tested true n v low high h = h
tested false n v low high h = (low, high)

header-numbered : (g : List ℕ) → Numbered (judge.header_verdict g)
unfolding judge.header_verdict
header-numbered g =
    tested (eqb (get_or g 1 0) zero_byte) 2 _ (omega arith) (omega arith)
    (tested (eqb (get_or g 3 0) zero_byte) 2 _ (omega arith) (omega arith)
    (tested (judge.is_request_type (get_or g 4 0)) 3 _ (omega arith) (omega arith)
    (tested (judge.is_length g) 4 judge.good (omega arith) (omega arith) tt)))

packet-numbered : (g : List ℕ) → Numbered (judge.packet_verdict g)
unfolding judge.packet_verdict
packet-numbered g =
    tested (judge.ends_in_return g) 5 _ (omega arith) (omega arith)
    (tested (judge.has_check_code g) 6 _ (omega arith) (omega arith)
    (tested (judge.is_message g) 7 judge.good (omega arith) (omega arith) tt))

-- a refusal leaves nothing held; with 1 nothing was held before
abbrev Declined : List ℕ → receive.Reception → List ℕ → Type 0
Declined held receive.waiting left = Unit {0}
Declined held (receive.refused n) left = (left ≡ []) × (((n ≡ 1) × (held ≡ [])) ⊎ ((2 ≤ n) × (n ≤ 7)))
Declined held (receive.whole p) left = Unit {0}

abbrev Declines : List ℕ → receive.Receipt → Type 0
Declines held r = Declined held r.answer r.held

judged-declines : (held : List ℕ) (v : judge.Verdict) (r : receive.Receipt) → Numbered v → Declines held r → Declines held (receive.judged v r)
judged-declines held judge.good r n h = h
judged-declines held (judge.refused k) r n h = (refl, inr n)

grown-declines : (held g : List ℕ) → Declines held (receive.grown g)
unfolding receive.grown
grown-declines held g =
    cond-by (Declines held) (ltb (length g) 7) _ _ (λ _. tt)
    (λ _. cond-by (Declines held) (eqb (length g) 7) _ _ (λ _. judged-declines held (judge.header_verdict g) (receive.keeps g) (header-numbered g) tt)
    (λ _. cond-by (Declines held) (ltb (length g) (size g)) _ _ (λ _. tt)
    (λ _. judged-declines held (judge.packet_verdict g) (receive.delivers g) (packet-numbered g) tt)))

accept-declines : (held : List ℕ) (b : ℕ) → Declines held (receive.accept held b)
unfolding receive.accept receive.behind
accept-declines held b =
    cond-by (Declines held) (eqb (length held) 0) _ _
    (λ t. cond-by (Declines held) (eqb b soh) _ _ (λ _. tt) (λ _. (refl, inl (refl, nothing_is held t))))
    (λ _. grown-declines held (held ++ (b ∷ [])))

-- ---- the board's refusals

-- what a refused call leaves: with 1 and 9 to 13 all as it was; with 2 to 8 all but the bytes held, of which there are none
pub data Refused (s : BoardState) (lent : List ℕ) (n : ℕ) (o : BoardOutcome) : Type 0 where
  unchanged : (n ≡ 1) ⊎ (9 ≤ n) → o ≡ refuse board_kind n s lent → Refused s lent n o
  emptied : 2 ≤ n → n ≤ 8 → o ≡ answers (refused n) s.ident [] lent → Refused s lent n o

module _ (s : BoardState) (m lent : List ℕ) (n : ℕ) (q : s.erase ≡ idle) where
  effect-refused : (to : Addressee) (p : List ℕ) (x : Effect) → effect s.ident m (request_in (get_or p 4 0) (packet_text p)) ≡ x
      → (on_packet_to to s.ident m p lent).answer ≡ refused n → Refused s lent n (on_packet_to to s.ident m p lent)
  unfolding on_packet_to to_own to_all
  effect-refused own p (replies r es) is e = let z : ◌≡◌ {A = ℕ} 0 1 = cc in absurd (omega arith)
  effect-refused own p begins is e = let z : ◌≡◌ {A = ℕ} 0 1 = cc in absurd (omega arith)
  effect-refused all p (replies r es) is e = let z : ◌≡◌ {A = ℕ} 0 1 = cc in absurd (omega arith)
  effect-refused all p begins is e = let z : ◌≡◌ {A = ℕ} 0 1 = cc in absurd (omega arith)
  effect-refused another p x is e =
      let z : 8 ≡ n = cc in
      emptied (omega arith) (omega arith) (ap (λ (k : ℕ). answers (refused k) s.ident [] lent) z)

  receipt-refused : (a : receive.Reception) (held : List ℕ) → Declined s.held a held
      → (on_receipt a held s.ident m lent).answer ≡ refused n → Refused s lent n (on_receipt a held s.ident m lent)
  unfolding on_receipt on_packet refuse
  receipt-refused receive.waiting held d e = let z : ◌≡◌ {A = ℕ} 0 1 = cc in absurd (omega arith)
  receipt-refused (receive.refused k) held (l, inl f) e =
      let z : k ≡ n = cc in
      let w : held ≡ s.held = l ∙ sym f.1 in
      unchanged (inl (sym z ∙ f.0)) (λ j. record { answer = refused (z j); state = record { ident = s.ident; held = w j; erase = sym q j }; stores = []; buffer = lent })
  receipt-refused (receive.refused k) held (l, inr f) e =
      let z : k ≡ n = cc in
      emptied (omega arith) (omega arith) (λ j. answers (refused (z j)) s.ident (l j) lent)
  receipt-refused (receive.whole p) held d e = effect-refused (addressee s.ident.id (get_or p 2 0)) p _ refl e

  done_refused : (c : Call) → (board.does c s m lent).answer ≡ refused n → Refused s lent n (board.does c s m lent)
  unfolding board.does
  done_refused (byte b) e = receipt-refused _ _ (accept-declines s.held b) e
  done_refused gap e = let z : ◌≡◌ {A = ℕ} 0 1 = cc in absurd (omega arith)

-- a check refuses with 9 or a greater number, and changes nothing
by_check : (s : BoardState) (lent : List ℕ) (k n : ℕ) → 9 ≤ k → (refuse board_kind k s lent).answer ≡ refused n
    → (9 ≤ n) × (refuse board_kind k s lent ≡ refuse board_kind n s lent)
unfolding refuse
by_check s lent k n h e = let z : k ≡ n = cc in (omega arith, ap (λ (k : ℕ). refuse board_kind k s lent) z)

pub refused-by_check : {s : BoardState} {lent : List ℕ} {n : ℕ} {o : BoardOutcome} → (9 ≤ n) × (o ≡ refuse board_kind n s lent) → Refused s lent n o
refused-by_check (h, e) = unchanged (inr h) e

pub call-refused : (c : Call) (s : BoardState) (m lent : List ℕ) (n : ℕ) → (on_call board_kind c s m lent).answer ≡ refused n
    → Refused s lent n (on_call board_kind c s m lent)
unfolding on_call call_on entry_check_of entry_check
call-refused c s m lent n = go (lends c && is_short lent) (is_sound board_kind s m) s.erase refl
  where
    go : (short sound : Bool) (e : Erase Bool) → s.erase ≡ e
        → (call_on board_kind (entry_check short sound (is_pending e)) c s m lent).answer ≡ refused n
        → Refused s lent n (call_on board_kind (entry_check short sound (is_pending e)) c s m lent)
    go true sound e q a = refused-by_check (by_check s lent 10 n (omega arith) a)
    go false false e q a = refused-by_check (by_check s lent 12 n (omega arith) a)
    go false true (pending p owed) q a = refused-by_check (by_check s lent 9 n (omega arith) a)
    go false true idle q a = done_refused s m lent n q c a

-- a step
last-not_refused : (i : Identity) (owed : Bool) (n : ℕ) → last_answer i owed ≡ refused n → ⊥
last-not_refused i true n e = let z : ◌≡◌ {A = ℕ} 0 1 = cc in omega arith
last-not_refused i false n e = let z : ◌≡◌ {A = ℕ} 0 1 = cc in omega arith

clear_not_refused : (p : ℕ) (owed : Bool) (s : BoardState) (lent : List ℕ) (n : ℕ) → (erase_step board_kind p owed s lent).answer ≡ refused n → ⊥
unfolding clear_step end_step
clear_not_refused p owed s lent n =
    step-clears_or_ends board_kind (λ o. o.answer ≡ refused n → ⊥) p owed s lent
    (λ t e. let z : ◌≡◌ {A = ℕ} 0 1 = cc in omega arith) (λ t e. last-not_refused s.ident owed n e)

pub step-refused : (s : BoardState) (m lent : List ℕ) (n : ℕ) → (on_step board_kind s m lent).answer ≡ refused n
    → (9 ≤ n) × (on_step board_kind s m lent ≡ refuse board_kind n s lent)
unfolding on_step step_on entry_check_of entry_check
step-refused s m lent n = go (is_short lent) (is_sound board_kind s m) s.erase
  where
    go : (short sound : Bool) (e : Erase Bool) → (step_on board_kind (entry_check short sound (is_pending e)) s lent).answer ≡ refused n
        → (9 ≤ n) × (step_on board_kind (entry_check short sound (is_pending e)) s lent ≡ refuse board_kind n s lent)
    go true sound e = by_check s lent 10 n (omega arith)
    go false false e = by_check s lent 12 n (omega arith)
    go false true idle = by_check s lent 13 n (omega arith)
    go false true (pending p owed) = λ a. absurd (clear_not_refused _ _ s lent n a)
