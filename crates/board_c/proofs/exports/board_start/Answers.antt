-- A refused start gives its number, a state of another size 12, and else the board is written and can be read back.
use Prim.Native.Nat.{ℕ}
use mathlib.Core.List.{List}
use mathlib.Core.Option.{some-injective, none-ne-some, some-ne-none}
use mathlib.Core.Path.{◌≡◌, refl, sym, ap, ◌∙◌, subst}
use lib.ListN.{length}
use borrow.Author.Tests.{eq-eqb, ne_eqb}
use Rattle.std.specs.Prelude.{Result, Ok, Err}
use Rattle.wire.specs.Refusal.{number_of}
use Rattle.wire.specs.declared.refusal.Refusal.{Refusal}
use Rattle.calls.specs.Board as calls
use Rattle.packets.specs.Packets.{BoardState}
use Rattle.board.specs.View.{state_of, start_refusal_in, start_refusal_of}
use Rattle.board.specs.declared.board.Board.{Board}
use Rattle.board.specs.Values.{Starts as StartsBoard}
use Rattle.board_c.specs.State.{state_bytes, state_in}
use Rattle.board_c.specs.Exports.{start_in, Starts}
use Rattle.board_c.proofs.exports.board_start.Goals as goal

-- a state of another size: the start's own refusal, or 12
refused_first : (x : calls.Started BoardState) (w : Result (Unit {0}) Refusal) (r : Refusal) (n : ℕ) (s m : List ℕ) → w ≡ Err r
    → start_refusal_of w ≡ start_refusal_in x → n ≡ number_of r → Starts (start_in (length s) x) n s s m m
unfolding start_in
refused_first (calls.board y es) w r n s m q e k = absurd (some-ne-none _ (sym (ap start_refusal_of q) ∙ e))
refused_first (calls.start_refused j) w r n s m q e k =
    record { result = k ∙ some-injective _ _ (sym (ap start_refusal_of q) ∙ e); state = tt; bytes = refl; stored = refl }

another_size : (x : calls.Started BoardState) (w : Result (Unit {0}) Refusal) (u : Unit {0}) (n : ℕ) (s m : List ℕ) → w ≡ Ok u
    → start_refusal_of w ≡ start_refusal_in x → (length s ≡ 111 → ⊥) → n ≡ number_of Refusal.Unsound → Starts (start_in (length s) x) n s s m m
unfolding start_in
another_size (calls.board y es) w u n s m q e f k = rw (ne_eqb (length s) 111 f) (record { result = k; state = tt; bytes = refl; stored = refl })
another_size (calls.start_refused j) w u n s m q e f k = absurd (none-ne-some _ (sym (ap start_refusal_of q) ∙ e))

-- a state of 111 bytes: the board is written, or the start is refused
put-starts : (x : calls.Started BoardState) (v : Result Board Refusal) (b : Board) (s after m m' : List ℕ) → v ≡ Ok b → StartsBoard v m m' x
    → length s ≡ 111 → after ≡ state_bytes b → state_in after ≡ state_of b → Starts (start_in (length s) x) 0 s after m m'
unfolding start_in
put-starts (calls.board y es) v b s after m m' q told size put shown =
    let t = subst (λ (v : Result Board Refusal). StartsBoard v m m' (calls.board y es)) q told in
    let is : state_of b ≡ y = let e = t.started in cc in
    rw (eq-eqb (length s) 111 size) (record { result = refl; state = shown ∙ is; bytes = put ∙ ap state_bytes t.value; stored = t.store })
put-starts (calls.start_refused j) v b s after m m' q told size put shown =
    let t = subst (λ (v : Result Board Refusal). StartsBoard v m m' (calls.start_refused j)) q told in
    absurd (let e = t.started in cc)

start-refused : (x : calls.Started BoardState) (v : Result Board Refusal) (r : Refusal) (n : ℕ) (s m m' : List ℕ) → v ≡ Err r → StartsBoard v m m' x
    → n ≡ number_of r → Starts (start_in (length s) x) n s s m m'
unfolding start_in
start-refused (calls.board y es) v r n s m m' q told k =
    let t = subst (λ (v : Result Board Refusal). StartsBoard v m m' (calls.board y es)) q told in
    absurd (let e = t.started in cc)
start-refused (calls.start_refused j) v r n s m m' q told k =
    let t = subst (λ (v : Result Board Refusal). StartsBoard v m m' (calls.start_refused j)) q told in
    let is : number_of r ≡ j = let e = t.started in cc in
    record { result = k ∙ is; state = tt; bytes = refl; stored = t.store }

pub returns-in-Ok : goal.returns-in-Ok
returns-in-Ok c = search another_size

pub returns-in-Err : goal.returns-in-Err
returns-in-Err c = search refused_first

pub returns-in-Ok-start : goal.returns-in-Ok-start
returns-in-Ok-start c = search put-starts

pub returns-in-Err-start : goal.returns-in-Err-start
returns-in-Err-start c = search start-refused
