-- A text in which a request is found spells it: each field that was read, written again, gives back the digits that it was read from, but for their case.
use Prim.Native.Nat.{ℕ, suc, ◌+◌, ◌-◌, ◌*◌, ◌/◌, ◌%◌, ◌≤◌, ◌<◌}
use mathlib.Core.Bool.{true, cond, ◌&&◌}
use mathlib.Core.List.{List, [], ◌∷◌, ◌++◌}
use mathlib.Core.Logic.{inl, inr}
use mathlib.Core.Option.{Option, none, some, map, none-ne-some}
use mathlib.Core.Path.{◌≡◌, refl, sym, ap, ◌∙◌, subst}
use native.Mathlib.Omega.{arith}
use borrow.Author.Tests.{lt-ltb, le-ltb, eqb-true}
use lib.Arith.{digits_div, digits_mod}
use lib.Dec.{ltb, leb, eqb}
use lib.ListN.{length, get_or, take, drop, drop_of_length-le}
use lib.Seq.{drop-cons, take_at, take-length}
use Rattle.wire.specs.Digits.{digit_of, two, four, hex_of, value_of, join, two_at, four_at, cons, unhex, octets_in, SameDigit, SameDigits}
use Rattle.wire.specs.Packet.{type_a, type_c, type_e}
use Rattle.wire.proofs.Tests.{cond-by, both, range-told}
use Rattle.wire.proofs.DigitLaws.{digit_below, two-below}
use Rattle.wire.proofs.CaseLaws.{same-itself, same-append}
use Rattle.messages.specs.Message.{Request, IsRequest}
use Rattle.messages.specs.Message.ScheduleRequest.{schedule_write}
use Rattle.messages.specs.Message.Request.{power_read, date_read, date_write, item_read, tag_write, schedule}
use Rattle.messages.specs.Text.{power_control_name, date_write_name, tag_write_name, schedule_read_name, schedule_write_name, schedule_enable_name}
use Rattle.messages.specs.Text.{date_text, schedule_text, request_type, request_text}
use Rattle.messages.specs.Read.{begins_with, is_name, date_in, numbers_in, get_in, set_in, power_control_in, schedule_read_in, schedule_write_in, schedule_enable_in, command_in, request_in}
use Rattle.messages.specs.Spelling.{Spells, name_length, SpellsRequest}
use Rattle.messages.specs.declared.message.Item.{Item}
use Rattle.messages.proofs.ParseLaws.{Found, bind_found, map_found, request-fits}
use Rattle.messages.proofs.SpellingLaws.{spells-itself}
use Rattle.messages.proofs.NameLaws.{name-first}

-- ---- digits

-- a value, if one was found, whose digit may come as b
abbrev Digit : ℕ → Option ℕ → Type 0
Digit b v = Found (λ n. SameDigit (digit_of n) b) v

digit_found : (b : ℕ) → Digit b (value_of b)
unfolding value_of
digit_found b =
    cond-by (Digit b) (leb 0x30 b && leb b 0x39) _ _
    (λ t. let h = range-told 0x30 b 0x39 t in rw (lt-ltb (b - 0x30) 10 (omega arith)) (inl (omega arith)))
    (λ _. cond-by (Digit b) (leb 0x41 b && leb b 0x46) _ _
    (λ t. let h = range-told 0x41 b 0x46 t in rw (le-ltb (b - 0x37) 10 (omega arith)) (inl (omega arith)))
    (λ _. cond-by (Digit b) (leb 0x61 b && leb b 0x66) _ _
    (λ t. let h = range-told 0x61 b 0x66 t in rw (le-ltb (b - 0x57) 10 (omega arith)) (inr (omega arith, omega arith, omega arith)))
    (λ _. tt)))

digit_written : (b : ℕ) {v : ℕ} → value_of b ≡ some v → SameDigit (digit_of v) b
digit_written b e = rw e at (digit_found b)

-- both parts of a number that they were joined to
join-told : (base : ℕ) (high low : Option ℕ) {n : ℕ} → ((l : ℕ) → low ≡ some l → l < base) → join base high low ≡ some n
    → (high ≡ some (n / base)) × (low ≡ some (n % base))
join-told base none low {n} h e = absurd (none-ne-some n e)
join-told base (some x) none {n} h e = absurd (none-ne-some n e)
join-told base (some x) (some y) {n} h e =
    let is : x * base + y ≡ n = cc in
    rw (← is) (ap some (sym (digits_div x (h y refl))), ap some (sym (digits_mod x (h y refl))))

pub two-written : (h l : ℕ) {n : ℕ} (s t : List ℕ) → join 16 (value_of h) (value_of l) ≡ some n → SameDigits s t → SameDigits (two n ++ s) (h ∷ l ∷ t)
unfolding SameDigits
two-written h l s t e q =
    let parts = join-told 16 (value_of h) (value_of l) (λ _. digit_below l) e in
    (digit_written h parts.0, (digit_written l parts.1, q))

-- ---- the parts of a text, each before what is behind it

pub two_at_lem : (t : List ℕ) (at : ℕ) {n : ℕ} (s : List ℕ) → at + 2 ≤ length t → two_at t at ≡ some n → SameDigits s (drop (at + 2) t)
    → SameDigits (two n ++ s) (drop at t)
unfolding two_at
two_at_lem t at {n} s h e q =
    let one : at + 1 ≡ suc at = omega arith in
    let more : at + 2 ≡ suc (suc at) = omega arith in
    let parts : get_or t at 0 ∷ get_or t (at + 1) 0 ∷ drop (at + 2) t ≡ drop at t =
    rw (drop-cons t at 0 (omega arith), drop-cons t (suc at) 0 (omega arith), one, more) in
    subst (SameDigits (two n ++ s)) parts (two-written (get_or t at 0) (get_or t (at + 1) 0) s (drop (at + 2) t) e q)

pub four-at : (t : List ℕ) (at : ℕ) {n : ℕ} (s : List ℕ) → at + 2 + 2 ≤ length t → four_at t at ≡ some n → SameDigits s (drop (at + 2 + 2) t)
    → SameDigits (four n ++ s) (drop at t)
unfolding four_at
four-at t at {n} s h e q =
    let parts = join-told 256 (two_at t at) (two_at t (at + 2)) (λ _. two-below t (at + 2)) e in
    two_at_lem t at (two (n % 256) ++ s) (omega arith) parts.0 (two_at_lem t (at + 2) s h parts.1 q)

pub name-written : (name t s : List ℕ) → begins_with name t ≡ true → SameDigits s (drop (length name) t) → SameDigits (name ++ s) t
name-written name t s h q =
    subst (SameDigits (name ++ s)) (name-first name t h) (same-append name name s (drop (length name) t) (same-itself name) q)

pub name-taken : (name t : List ℕ) → begins_with name t ≡ true → take (length name) t ≡ name
name-taken name t h = ap (take (length name)) (sym (name-first name t h)) ∙ take_at name (drop (length name) t) (length name) refl

-- nothing is behind the last
pub ended : (n : ℕ) (t : List ℕ) → length t ≤ n → SameDigits [] (drop n t)
unfolding SameDigits
ended n t h = rw (drop_of_length-le t h) tt

pub name-is : (name t : List ℕ) → is_name name t ≡ true → name ≡ t
unfolding is_name
name-is name t h =
    let w = both (eqb (length t) (length name)) (begins_with name t) h in
    sym (name-taken name t w.1) ∙ rw (← eqb-true (length t) (length name) w.0) (take-length t)

-- a date, bytes and a schedule's numbers, if they were found
pub date_written_lem : (t : List ℕ) → Found (λ d. SameDigits (date_text d) t) (date_in t)
unfolding date_in date_text
date_written_lem t =
    cond-by (Found (λ d. SameDigits (date_text d) t)) (eqb (length t) 14) _ _
    (λ h. let l = eqb-true (length t) 14 h in
    bind_found _ (two_at t 0) _ λ yy a.
    bind_found _ (two_at t 2) _ λ mm b.
    bind_found _ (two_at t 4) _ λ dd c.
    bind_found _ (two_at t 6) _ λ ww d.
    bind_found _ (two_at t 8) _ λ hh e.
    bind_found _ (two_at t 10) _ λ mn f.
    bind_found _ (two_at t 12) _ λ ds g.
    two_at_lem t 0 _ (omega arith) a (two_at_lem t 2 _ (omega arith) b (two_at_lem t 4 _ (omega arith) c (two_at_lem t 6 _ (omega arith) d
    (two_at_lem t 8 _ (omega arith) e (two_at_lem t 10 _ (omega arith) f (two_at_lem t 12 [] (omega arith) g (ended 14 t (omega arith)))))))))
    (λ _. tt)

abbrev Bytewise : List ℕ → Option (List ℕ) → Type 0
Bytewise t o = Found (λ s. SameDigits (hex_of s) t) o

unhex-written : (t : List ℕ) → Bytewise t (unhex t)
unfolding hex_of unhex SameDigits
unhex-written [] = tt
unhex-written (h ∷ []) = tt
unhex-written (h ∷ l ∷ t) = go (join 16 (value_of h) (value_of l)) refl (unhex t) (unhex-written t)
  where
    go : (b : Option ℕ) → join 16 (value_of h) (value_of l) ≡ b → (bs : Option (List ℕ)) → Bytewise t bs → Bytewise (h ∷ l ∷ t) (cons b bs)
    go none e bs q = tt
    go (some b) e none q = tt
    go (some b) e (some bs) q = two-written h l (hex_of bs) t e q

pub octets_written : (t : List ℕ) → Found (λ s. SameDigits (hex_of s) t) (octets_in t)
unfolding octets_in
octets_written t = cond-by (Bytewise t) (ltb 32 (length t)) _ _ (λ _. tt) (λ _. unhex-written t)

pub numbers-written : (t : List ℕ) → Found (λ s. SameDigits (hex_of s) t) (numbers_in t)
unfolding numbers_in
numbers-written t = cond-by (Bytewise t) (eqb (length t) 32) _ _ (λ _. octets_written t) (λ _. tt)

-- ---- requests

-- digits alone, and digits behind a name
pub spelt_digits : {text t : List ℕ} → SameDigits text t → Spells 0 0 text t
spelt_digits same = record { digits = same; name = refl }

pub spelt : (name t s : List ℕ) → begins_with name t ≡ true → SameDigits s (drop (length name) t) → Spells 0 (length name) (name ++ s) t
spelt name t s b q = record { digits = name-written name t s b q; name = name-taken name t b ∙ sym (take_at name s (length name) refl) }

module _ (kind : ℕ) (t : List ℕ) where
  -- a request of this type that is spelt so
  abbrev IsSaid : Request → Type 0
  IsSaid r = (request_type r ≡ kind) × SpellsRequest r t

  -- if one was found, it is that
  abbrev Said : Option Request → Type 0
  Said o = Found IsSaid o

  get_said : type_c ≡ kind → Said (get_in t)
  unfolding get_in request_type request_text
  get_said is =
      cond-by Said (eqb (length t) 4) _ _
      (λ h. let l = eqb-true (length t) 4 h in
      bind_found IsSaid (two_at t 0) _ λ page a.
      bind_found IsSaid (two_at t 2) _ λ code b.
      (is, spelt_digits (two_at_lem t 0 _ (omega arith) a (two_at_lem t 2 [] (omega arith) b (ended 4 t (omega arith))))))
      (λ _. tt)

  set_said : type_e ≡ kind → Said (set_in t)
  unfolding set_in request_type request_text
  set_said is =
      cond-by Said (eqb (length t) 8) _ _
      (λ h. let l = eqb-true (length t) 8 h in
      bind_found IsSaid (two_at t 0) _ λ page a.
      bind_found IsSaid (two_at t 2) _ λ code b.
      bind_found IsSaid (four_at t 4) _ λ value c.
      (is, spelt_digits (two_at_lem t 0 _ (omega arith) a (two_at_lem t 2 _ (omega arith) b (four-at t 4 [] (omega arith) c (ended 8 t (omega arith)))))))
      (λ _. tt)

  module _ (is : type_a ≡ kind) where
    power-said : begins_with power_control_name t ≡ true → Said (power_control_in (drop 6 t))
    unfolding power_control_in request_type request_text
    power-said b =
        let s = drop 6 t in
        cond-by Said (eqb (length s) 4) _ _
        (λ h. let l = eqb-true (length s) 4 h in
        bind_found IsSaid (four_at s 0) _ λ mode a.
        (is, spelt power_control_name t (four mode) b (four-at s 0 [] (omega arith) a (ended 4 s (omega arith)))))
        (λ _. tt)

    date_said : begins_with date_write_name t ≡ true → Said (map date_write (date_in (drop 4 t)))
    unfolding request_type request_text
    date_said b =
        map_found IsSaid date_write (date_in (drop 4 t)) (λ d e. (is, spelt date_write_name t (date_text d) b (rw e at (date_written_lem (drop 4 t)))))

    tag_said : begins_with tag_write_name t ≡ true → Said (map tag_write (octets_in (drop 4 t)))
    unfolding request_type request_text
    tag_said b =
        map_found IsSaid tag_write (octets_in (drop 4 t)) (λ s e. (is, spelt tag_write_name t (hex_of s) b (rw e at (octets_written (drop 4 t)))))

    schedule_read_said : begins_with schedule_read_name t ≡ true → Said (schedule_read_in (drop 4 t))
    unfolding schedule_read_in request_type request_text schedule_text
    schedule_read_said b =
        let s = drop 4 t in
        cond-by Said (eqb (length s) 2) _ _
        (λ h. let l = eqb-true (length s) 2 h in
        bind_found IsSaid (two_at s 0) _ λ program a.
        (is, spelt schedule_read_name t (two program) b (two_at_lem s 0 [] (omega arith) a (ended 2 s (omega arith)))))
        (λ _. tt)

    schedule_write_said : begins_with schedule_write_name t ≡ true → Said (schedule_write_in (drop 4 t))
    unfolding request_type request_text schedule_text
    schedule_write_said b =
        map_found IsSaid (λ numbers. schedule (schedule_write numbers)) (numbers_in (drop 4 t))
        (λ s e. (is, spelt schedule_write_name t (hex_of s) b (rw e at (numbers-written (drop 4 t)))))

    schedule_enable_said : begins_with schedule_enable_name t ≡ true → Said (schedule_enable_in (drop 4 t))
    unfolding schedule_enable_in request_type request_text schedule_text
    schedule_enable_said b =
        let s = drop 4 t in
        cond-by Said (eqb (length s) 4) _ _
        (λ h. let l = eqb-true (length s) 4 h in
        bind_found IsSaid (two_at s 0) _ λ program a.
        bind_found IsSaid (two_at s 2) _ λ enable c. (
          is,
          spelt schedule_enable_name t (two program ++ two enable) b
              (two_at_lem s 0 _ (omega arith) a (two_at_lem s 2 [] (omega arith) c (ended 4 s (omega arith)))),
        ))
        (λ _. tt)

    -- a request whose text is a name
    named : (r : Request) (x : Option Request) → request_type r ≡ type_a → Said x → Said (cond (is_name (request_text r) t) (some r) x)
    named r x a f = cond-by Said (is_name (request_text r) t) _ _ (λ h. (a ∙ is, rw (name-is (request_text r) t h) (spells-itself 0 (name_length r) t))) (λ _. f)

    command_said : Said (command_in t)
    unfolding command_in request_type request_text
    command_said =
        named power_read _ refl
        (named date_read _ refl
        (named (item_read Item.Serial) _ refl
        (named (item_read Item.Model) _ refl
        (named (item_read Item.Tag) _ refl
        (named (item_read Item.FormerTag) _ refl
        (cond-by Said (begins_with power_control_name t) _ _ power-said
        (λ _. cond-by Said (begins_with date_write_name t) _ _ date_said
        (λ _. cond-by Said (begins_with schedule_read_name t) _ _ schedule_read_said
        (λ _. cond-by Said (begins_with schedule_enable_name t) _ _ schedule_enable_said (λ _. tt))))))))))

  request-said : Said (request_in kind t)
  unfolding request_in
  request-said =
      cond-by Said (eqb kind type_c) _ _ (λ h. get_said (sym (eqb-true kind type_c h)))
      (λ _. cond-by Said (eqb kind type_e) _ _ (λ h. set_said (sym (eqb-true kind type_e h)))
      (λ _. cond-by Said (eqb kind type_a) _ _
      (λ h. let is = sym (eqb-true kind type_a h) in
      cond-by Said (begins_with tag_write_name t) _ _ (tag_said is)
      (λ _. cond-by Said (begins_with schedule_write_name t) _ _ (schedule_write_said is) (λ _. command_said is)))
      (λ _. tt)))

pub request-written_back : (kind : ℕ) (t : List ℕ) {r : Request} → request_in kind t ≡ some r
    → IsRequest r × (request_type r ≡ kind) × SpellsRequest r t
request-written_back kind t e =
    let said = rw e at (request-said kind t) in
    (rw e at (request-fits kind t), said.0, said.1)
