-- Laws of a state's bytes: a buffer written part by part from its beginning, and what is read from it.
use Prim.Native.Nat.{ℕ, ◌+◌, ◌<◌, ◌≤◌}
use mathlib.Core.Bool.{true, false}
use mathlib.Core.List.{List, [], ◌∷◌, ◌++◌, map, append_assoc, append-nil}
use mathlib.Core.Path.{◌≡◌, refl, sym, ap, ◌∙◌}
use native.Mathlib.Omega.{arith}
use lib.ListN.{length, get_or, set, take, drop, length-append, take-append-drop, length-map, drop_of_length-le}
use lib.Seq.{paste, length-take-le, take-take, take_at, drop_at, drop-drop, get_or-drop}
use borrow.Author.Tests.{eq-eqb}
use Rattle.wire.specs.Packet.{over}
use Rattle.wire.proofs.PacketLaws.{over-paste, over-set}
use Rattle.wire.specs.declared.digits.Octets.{Octets}
use Rattle.actions.specs.declared.Identity.{Identity}
use Rattle.receiver.specs.declared.Receiver.{Receiver}
use Rattle.board.specs.declared.board.Board.{Board}
use Rattle.calls.specs.Board.{place_of}
use Rattle.board.specs.View.{erase_of}
use Rattle.board.specs.Inner.{Sized}
use Rattle.board_c.specs.State.{state_bytes, board_in, counted_item, item_in, erase_kind, erase_in}
use Rattle.board_c.specs.Inner.{identity_part, progress_part}
use Rattle.board.specs.declared.board.Erase.{Erase}

-- ---- a buffer written from its beginning

over-all : (p o : List ℕ) → length p ≡ length o → over p o ≡ p
unfolding over
over-all p o e =
    let h : length o ≤ length p = omega arith in
    rw (drop_of_length-le o h, append-nil)

first_over : (o : List ℕ) (b : ℕ) → 0 < length o → set o 0 b ≡ over (b ∷ []) o
unfolding over
first_over o b h = over-set [] o 0 refl b h

module _ (p o : List ℕ) (k : ℕ) (e : length p ≡ k) where
  set-over : (s : List ℕ) (b : ℕ) → k < length o → s ≡ over p o → set s k b ≡ over (p ++ (b ∷ [])) o
  set-over s b h q = rw q (over-set p o k e b h)

  paste_over : (s t r : List ℕ) → s ≡ over p o → r ≡ paste s k t (length t) → r ≡ over (p ++ t) o
  paste_over s t r q w = w ∙ ap (λ (s : List ℕ). paste s k t (length t)) q ∙ over-paste p o k e t

-- the first part of a list stands in it
front_over : (o : List ℕ) (k : ℕ) → k ≤ length o → o ≡ over (take k o) o
unfolding over
front_over o k h = rw (length-take-le k o h) (sym (take-append-drop k o))

-- what is written behind a first part is written from its end on
behind-front : (o t r : List ℕ) (k : ℕ) → k ≤ length o → r ≡ over (take k o ++ t) o → r ≡ paste o k t (length t)
behind-front o t r k h q =
    q ∙ sym (over-paste (take k o) o k (length-take-le k o h) t) ∙ ap (λ (s : List ℕ). paste s k t (length t)) (sym (front_over o k h))

-- the arrays of a board by value have their lengths

counted : (n : ℕ) (l : List ℕ) → length (map (λ (x : ℕ). x) l) ≡ n → length l ≡ n
counted n l e = sym (length-map l (λ (x : ℕ). x)) ∙ e

pub sized : (b : Board) → length (map (λ (x : ℕ). x) b.identity.serial.bytes) ≡ 16 → length (map (λ (x : ℕ). x) b.identity.model.bytes) ≡ 16
    → length (map (λ (x : ℕ). x) b.receiver.held) ≡ 73 → Sized b
sized b s m h = record { serial = counted 16 b.identity.serial.bytes s; model = counted 16 b.identity.model.bytes m; held = counted 73 b.receiver.held h }

-- ---- a board written

pub identity-put : (n : Identity) (o s r : List ℕ)
    → s ≡ paste (set o 0 n.id) 1 (counted_item n.serial) (length (counted_item n.serial))
    → r ≡ paste s 18 (counted_item n.model) (length (counted_item n.model))
    → length o ≡ 111 → length n.serial.bytes ≡ 16 → r ≡ over (identity_part n) o
identity-put n o s r q w size l =
    let first = paste_over (n.id ∷ []) o 1 refl _ (counted_item n.serial) s (first_over o n.id (omega arith)) q in
    paste_over (n.id ∷ counted_item n.serial) o 18 (omega arith) s (counted_item n.model) r first w

pub progress_put : (v : Receiver) (erase : Erase) (kind place : ℕ) (o s : List ℕ)
    → s ≡ paste (set o 35 v.len) 36 v.held (length v.held) → kind ≡ erase_kind erase → place ≡ place_of (erase_of erase) → length o ≡ 111 → length v.held ≡ 73
    → set (set s 109 kind) 110 place ≡ paste o 35 (progress_part v erase) (length (progress_part v erase))
progress_put v erase kind place o s q ek ep size l =
    let front = take 35 o in
    let end : length front ≡ 35 = length-take-le 35 o (omega arith) in
    let to_len = front ++ (v.len ∷ []) in
    let len-end : length to_len ≡ 36 = simp length-append (omega arith) in
    let to_held = to_len ++ v.held in
    let held-end : length to_held ≡ 109 = simp length-append (omega arith) in
    let to-kind = to_held ++ (kind ∷ []) in
    let kind-end : length to-kind ≡ 110 = simp length-append (omega arith) in
    let len-over = set-over front o 35 end o v.len (omega arith) (front_over o 35 (omega arith)) in
    let held-over = paste_over to_len o 36 len-end _ v.held s len-over q in
    let kind-over = set-over to_held o 109 held-end s kind (omega arith) held-over in
    let place-over = set-over to-kind o 110 kind-end _ place (omega arith) kind-over in
    let parts : to-kind ++ (place ∷ []) ≡ front ++ progress_part v erase = simp append_assoc (rw (ek, ep)) in
    behind-front o (progress_part v erase) _ 35 (omega arith) (place-over ∙ rw parts)

pub board-put : (b : Board) (o s r : List ℕ) → s ≡ over (identity_part b.identity) o
    → r ≡ paste s 35 (progress_part b.receiver b.erase) (length (progress_part b.receiver b.erase)) → length o ≡ 111
    → Sized b → r ≡ state_bytes b
unfolding state_bytes
board-put b o s r q w size z =
    let front = identity_part b.identity in
    let rest = progress_part b.receiver b.erase in
    let end : length front ≡ 35 = simp length-append (omega (arith, z.serial, z.model)) in
    let all : length (front ++ rest) ≡ length o = simp length-append (omega (arith, z.serial, z.model, z.held)) in
    paste_over front o 35 end s rest r q w ∙ over-all (front ++ rest) o all ∙ simp append_assoc

-- ---- a board read

text-first : (s : List ℕ) → item_in (take 17 s) ≡ item_in s
text-first [] = refl
text-first (b ∷ bs) = rw (take-take 16 16 bs (omega arith))

pub board-read : (s : List ℕ) (serial model : Octets) (h : List ℕ) (e : Erase) → length s ≡ 111
    → serial ≡ item_in (take 17 (drop 1 s)) → model ≡ item_in (take 17 (drop 18 s))
    → h ≡ take 73 (drop 36 s) → e ≡ erase_in (get_or s 109 0) (get_or s 110 0)
    → record { identity = record { id = get_or s 0 0; serial = serial; model = model }; receiver = record { held = h; len = get_or s 35 0 }; erase = e }
    ≡ board_in s
unfolding board_in
board-read s serial model h e size qs qm qh qe = rw (eq-eqb (length s) 111 size, qs, qm, text-first (drop 1 s), text-first (drop 18 s), qh, qe)

-- ---- what was written is read

erase-back : (e : Erase) → erase_in (erase_kind e) (place_of (erase_of e)) ≡ e
unfolding erase_in
erase-back Erase.Idle = refl
erase-back (Erase.Pending place false) = refl
erase-back (Erase.Pending place true) = refl

text-back : (t : Octets) (s : List ℕ) → length t.bytes ≡ 16 → item_in (counted_item t ++ s) ≡ t
text-back t s e = rw (take_at t.bytes s 16 e)

module _ (b : Board) (z : Sized b) where
  abbrev erase-bytes : List ℕ
  erase-bytes = erase_kind b.erase ∷ place_of (erase_of b.erase) ∷ []

  abbrev from-len : List ℕ
  from-len = b.receiver.len ∷ (b.receiver.held ++ erase-bytes)

  abbrev from-model : List ℕ
  from-model = counted_item b.identity.model ++ from-len

  pub size_of : length (state_bytes b) ≡ 111
  unfolding state_bytes
  size_of = simp length-append (omega (arith, z.serial, z.model, z.held))

  at-model : drop 18 (state_bytes b) ≡ from-model
  unfolding state_bytes
  at-model = drop_at b.identity.serial.bytes from-model 16 z.serial

  at_len : drop 35 (state_bytes b) ≡ from-len
  at_len = sym (drop-drop 17 18 (state_bytes b)) ∙ ap (drop 17) at-model ∙ drop_at b.identity.model.bytes from-len 16 z.model

  at_held : drop 36 (state_bytes b) ≡ b.receiver.held ++ erase-bytes
  at_held = sym (drop-drop 1 35 (state_bytes b)) ∙ ap (drop 1) at_len

  at_erase : drop 109 (state_bytes b) ≡ erase-bytes
  at_erase = sym (drop-drop 73 36 (state_bytes b)) ∙ ap (drop 73) at_held ∙ drop_at b.receiver.held erase-bytes 73 z.held

  at_place : (n : ℕ) (s : List ℕ) → drop n (state_bytes b) ≡ s → (i : ℕ) → get_or (state_bytes b) (n + i) 0 ≡ get_or s i 0
  at_place n s e i = sym (get_or-drop n (state_bytes b) i 0) ∙ ap (λ (s : List ℕ). get_or s i 0) e

  pub back : board_in (state_bytes b) ≡ b
  unfolding board_in state_bytes
  back =
      let serial : item_in (drop 1 (state_bytes b)) ≡ b.identity.serial = text-back b.identity.serial from-model z.serial in
      let model : item_in (drop 18 (state_bytes b)) ≡ b.identity.model = ap item_in at-model ∙ text-back b.identity.model from-len z.model in
      let held : take 73 (drop 36 (state_bytes b)) ≡ b.receiver.held = ap (take 73) at_held ∙ take_at b.receiver.held erase-bytes 73 z.held in
      let len : get_or (state_bytes b) 35 0 ≡ b.receiver.len = at_place 35 from-len at_len 0 in
      let kind : get_or (state_bytes b) 109 0 ≡ erase_kind b.erase = at_place 109 erase-bytes at_erase 0 in
      let place : get_or (state_bytes b) 110 0 ≡ place_of (erase_of b.erase) = at_place 109 erase-bytes at_erase 1 in
      let pending : erase_in (get_or (state_bytes b) 109 0) (get_or (state_bytes b) 110 0) ≡ b.erase =
      (λ j. erase_in (kind j) (place j)) ∙ erase-back b.erase in
      rw (eq-eqb (length (state_bytes b)) 111 size_of)
      (λ j. record { identity = record { id = b.identity.id; serial = serial j; model = model j }; receiver = record { held = held j; len = len j }; erase = pending j })
