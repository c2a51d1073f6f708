-- Laws of a call's answer told as numbers: which answers keep a state, and what C sees of a call.
use Prim.Native.Nat.{ℕ, ◌≤◌}
use mathlib.Core.Bool.{Bool, true, false, cond, ◌&&◌, ◌||◌}
use mathlib.Core.List.{List, []}
use mathlib.Core.Path.{◌≡◌, refl, sym, ap, ◌∙◌, subst}
use native.Mathlib.Omega.{arith}
use borrow.Author.Tests.{eqb-true, eqb-false, ne_eqb, lt-leb}
use lib.Dec.{eqb, leb}
use lib.ListN.{length}
use Rattle.wire.specs.Refusal.{number_of, changes_nothing}
use Rattle.wire.specs.declared.refusal.Refusal.{Refusal}
use Rattle.calls.specs.Board as calls
use Rattle.calls.specs.Calls.{is_short, refuse, on_call, on_step}
use Rattle.packets.specs.Packets.{BoardState, BoardOutcome}
use Rattle.board.specs.BoardKind.{Call, gap, lends, board_kind}
use Rattle.board.specs.View.{state_of, answer_of, answer_kind, Result, Gives}
use Rattle.board.specs.Values.{call_leaves, step_leaves}
use Rattle.board.specs.Inner.{Sized}
use Rattle.board.specs.declared.board.Answer.{Answer}
use Rattle.board.specs.declared.board.Board.{Board}
use Rattle.board.specs.declared.board.Done.{Done}
use Rattle.board.proofs.RefusalLaws.{Refused, unchanged, emptied, refused-by_check, call-refused, step-refused}
use Rattle.board_c.specs.State.{board_in, state_bytes, state_in}
use Rattle.board_c.specs.Exports.{refusal_as, length_as, keeps_all, Leaves, Answers}
use Rattle.board_c.specs.Inner.{AnswerTold}
use Rattle.board_c.proofs.Theorems.{board-back, other-size_refused}

-- ---- answers by their places

pub refusal-kept : (a : Answer) (r : Refusal) (n : ℕ) → a ≡ Answer.Refused r → n ≡ number_of r → (eqb n 1 || leb 9 n) ≡ keeps_all (answer_of a)
unfolding changes_nothing
refusal-kept a r n q e = rw (q, e)

-- ---- where nothing of a state is written

clash : (t : Bool) → t ≡ true → t ≡ false → ⊥
clash t p q = let z : ◌≡◌ {A = ℕ} 0 1 = cc in omega arith

between-changes : (n : ℕ) → 2 ≤ n → n ≤ 8 → keeps_all (calls.refused n) ≡ false
unfolding changes_nothing
between-changes n low high = rw (ne_eqb n 1 (λ e. omega arith), lt-leb 9 n (omega arith))

refused-kept : (s : BoardState) (lent : List ℕ) (n : ℕ) (o : BoardOutcome) → Refused s lent n o → keeps_all (calls.refused n) ≡ true → o.state ≡ s
unfolding refuse
refused-kept s lent n o (unchanged h e) k = ap (λ (o : BoardOutcome). o.state) e
refused-kept s lent n o (emptied low high e) k = absurd (clash _ k (between-changes n low high))

-- a call that keeps all leaves the state that it had
pub kept_by : (s : BoardState) (lent : List ℕ) (o : BoardOutcome) → ((n : ℕ) → o.answer ≡ calls.refused n → Refused s lent n o)
    → keeps_all o.answer ≡ true → o.state ≡ s
kept_by s lent o f = go o.answer refl
  where
    go : (a : calls.Answer ℕ) → o.answer ≡ a → keeps_all a ≡ true → o.state ≡ s
    go calls.waiting e k = let z : ◌≡◌ {A = ℕ} 0 1 = cc in absurd (omega arith)
    go calls.silent e k = let z : ◌≡◌ {A = ℕ} 0 1 = cc in absurd (omega arith)
    go calls.begun e k = let z : ◌≡◌ {A = ℕ} 0 1 = cc in absurd (omega arith)
    go calls.more e k = let z : ◌≡◌ {A = ℕ} 0 1 = cc in absurd (omega arith)
    go calls.ended e k = let z : ◌≡◌ {A = ℕ} 0 1 = cc in absurd (omega arith)
    go (calls.refused n) e k = refused-kept s lent n o (f n e) k
    go (calls.reply n) e k = let z : ◌≡◌ {A = ℕ} 0 1 = cc in absurd (omega arith)

ten_or_twelve : (t : Bool) (s : BoardState) (lent : List ℕ) (o : BoardOutcome) → o ≡ refuse board_kind (cond t 10 12) s lent
    → keeps_all o.answer ≡ true
unfolding refuse changes_nothing
ten_or_twelve true s lent o e = ap (λ (o : BoardOutcome). keeps_all o.answer) e
ten_or_twelve false s lent o e = ap (λ (o : BoardOutcome). keeps_all o.answer) e

-- a call that changes something was on a state of 111 bytes
sized-by : (s lent : List ℕ) (t : Bool) (o : BoardOutcome) → ((length s ≡ 111 → ⊥) → o ≡ refuse board_kind (cond t 10 12) (state_in s) lent)
    → keeps_all o.answer ≡ false → length s ≡ 111
sized-by s lent t o f k = go (eqb (length s) 111) refl
  where
    go : (d : Bool) → eqb (length s) 111 ≡ d → length s ≡ 111
    go true e = eqb-true (length s) 111 e
    go false e = absurd (clash _ (ten_or_twelve t (state_in s) lent o (f (eqb-false (length s) 111 e))) k)

-- ---- a state that is written

pub state-put : (b : Board) (s : List ℕ) → s ≡ state_bytes b → Sized b → state_in s ≡ state_of b
state-put b s e z = ap state_in e ∙ ap state_of (board-back b z.serial z.model z.held)

-- ---- what a call leaves, as C sees it

module _ (d : Done) (r refusal refusalAfter size sizeAfter : ℕ) (s after m mAfter lent lentAfter : List ℕ)
    (told : AnswerTold d r refusal refusalAfter size sizeAfter s after) where
  whole : (leaves : BoardOutcome → Board) (o : BoardOutcome) → Gives d m mAfter lentAfter leaves o → (keeps_all o.answer ≡ true → o.state ≡ state_in s)
      → (keeps_all o.answer ≡ false → length s ≡ 111) → Answers leaves o r refusal refusalAfter size sizeAfter s after m mAfter lentAfter
  whole leaves o given kept room =
      record {
        left =
            record {
              result = told.result ∙ ap answer_kind answer;
              refusal = told.places.refused ∙ ap (λ (a : calls.Answer ℕ). refusal_as a refusal) answer;
              state = shown (keeps_all o.answer) refl;
              bytes = written (keeps_all o.answer) refl;
            };
        count = told.places.replied ∙ ap (λ (a : calls.Answer ℕ). length_as a size) answer;
        stored = ap (λ (r : Result). r.store) given.result;
        buffer = ap (λ (r : Result). r.buffer) given.result;
      }
    where
      answer : answer_of d.answer ≡ o.answer
      answer = ap (λ (r : Result). r.answer) given.result

      same : keeps_all o.answer ≡ true → after ≡ s
      same k = told.state.kept (ap keeps_all answer ∙ k)

      shown : (t : Bool) → keeps_all o.answer ≡ t → state_in after ≡ o.state
      shown true k = ap state_in (same k) ∙ sym (kept k)
      shown false k = told.state.shown (ap keeps_all answer ∙ k) (room k) ∙ ap (λ (r : Result). r.state) given.result

      written : (t : Bool) → keeps_all o.answer ≡ t → after ≡ cond t s (state_bytes (leaves o))
      written true k = same k
      written false k = told.state.bytes (ap keeps_all answer ∙ k) (room k) ∙ ap state_bytes given.value

  module _ (b : Board) (read : b ≡ board_in s) where
    pub call_answers : (c : Call) → Gives d m mAfter lentAfter (call_leaves c b) (on_call board_kind c (state_of b) m lent)
        → Answers (call_leaves c (board_in s)) (on_call board_kind c (state_in s) m lent) r refusal refusalAfter size sizeAfter s after m mAfter lentAfter
    call_answers c given =
        let o = on_call board_kind c (state_in s) m lent in
        whole (call_leaves c (board_in s)) o
        (subst (λ (b : Board). Gives d m mAfter lentAfter (call_leaves c b) (on_call board_kind c (state_of b) m lent)) read given)
        (kept_by (state_in s) lent o (call-refused c (state_in s) m lent))
        (sized-by s lent (lends c && is_short lent) o (λ n. (other-size_refused s n).called c m lent))

    pub step_answers : Gives d m mAfter lentAfter (step_leaves b) (on_step board_kind (state_of b) m lent)
        → Answers (step_leaves (board_in s)) (on_step board_kind (state_in s) m lent) r refusal refusalAfter size sizeAfter s after m mAfter lentAfter
    step_answers given =
        let o = on_step board_kind (state_in s) m lent in
        whole (step_leaves (board_in s)) o
        (subst (λ (b : Board). Gives d m mAfter lentAfter (step_leaves b) (on_step board_kind (state_of b) m lent)) read given)
        (kept_by (state_in s) lent o (λ n e. refused-by_check (step-refused (state_in s) m lent n e)))
        (sized-by s lent (is_short lent) o (λ n. (other-size_refused s n).stepped m lent))

-- a gap has no buffer and no reply
pub gap-leaves : (d : Done) (r refusal refusalAfter size sizeAfter : ℕ) (s after m mAfter : List ℕ)
    → AnswerTold d r refusal refusalAfter size sizeAfter s after
    → (b : Board) → b ≡ board_in s → Gives d m mAfter [] (call_leaves gap b) (on_call board_kind gap (state_of b) m [])
    → Leaves (call_leaves gap (board_in s)) (on_call board_kind gap (state_in s) m []) r refusal refusalAfter s after
gap-leaves d r refusal refusalAfter size sizeAfter s after m mAfter told b read given =
    (call_answers d r refusal refusalAfter size sizeAfter s after m mAfter [] [] told b read gap given).left
