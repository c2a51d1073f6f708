-- What is found in a text is in range: two digits give a byte, four give 16 bits, at most 16 bytes are read, and a schedule's numbers are 16.
use Prim.Native.Nat.{ℕ}
use mathlib.Core.Bool.{Bool, cond}
use mathlib.Core.List.{List}
use mathlib.Core.Option.{Option, none, some, map}
use mathlib.Core.Path.{◌≡◌, refl}
use native.Mathlib.Omega.{arith}
use borrow.Author.Tests.{eqb-true}
use lib.Dec.{eqb}
use lib.ListN.{length, drop}
use Rattle.wire.specs.Digits.{bind, two_at, four_at, octets_in}
use Rattle.wire.proofs.Tests.{cond-by}
use Rattle.wire.proofs.DigitLaws.{two-below, four_below, bytes-few, bytes-length, bytes-are_bytes}
use Rattle.messages.specs.Message.{IsDate, IsItem, IsNumbers, IsRequest}
use Rattle.messages.specs.Message.ScheduleRequest.{schedule_write}
use Rattle.messages.specs.Message.Request.{date_write, tag_write, schedule}
use Rattle.messages.specs.Text.{power_read_name, power_control_name, date_read_name, date_write_name, item_read_name, tag_write_name}
use Rattle.messages.specs.Text.{schedule_read_name, schedule_write_name, schedule_enable_name}
use Rattle.wire.specs.Packet.{type_a, type_c, type_e}
use Rattle.messages.specs.Read.{begins_with, is_name, date_in, numbers_in, get_in, set_in, power_control_in, schedule_read_in, schedule_enable_in, command_in, request_in}
use Rattle.messages.specs.declared.message.Item.{Item}

-- what holds of the value that was found, if one was
abbrev pub Found : {A : Type 0} → (A → Type 0) → Option A → Type 0
Found P none = Unit {0}
Found P (some a) = P a

module _ {A : Type 0} (P : A → Type 0) where
  pub bind_found : {B : Type 0} (o : Option B) (f : B → Option A) → ((b : B) → o ≡ some b → Found P (f b)) → Found P (bind o f)
  bind_found none f h = tt
  bind_found (some b) f h = h b refl

  pub map_found : {B : Type 0} (f : B → A) (o : Option B) → ((b : B) → o ≡ some b → P (f b)) → Found P (map f o)
  map_found f none h = tt
  map_found f (some b) h = h b refl

  each_found : (o : Option A) → ((a : A) → o ≡ some a → P a) → Found P o
  each_found none h = tt
  each_found (some a) h = h a refl

  test_found : (t : Bool) (x y : Option A) → Found P x → Found P y → Found P (cond t x y)
  test_found t x y p q = cond-by (Found P) t x y (λ _. p) (λ _. q)

pub date_found : (t : List ℕ) → Found IsDate (date_in t)
unfolding date_in
date_found t =
    test_found IsDate (eqb (length t) 14) _ _
    (bind_found IsDate (two_at t 0) _ λ yy a.
    bind_found IsDate (two_at t 2) _ λ mm b.
    bind_found IsDate (two_at t 4) _ λ dd c.
    bind_found IsDate (two_at t 6) _ λ ww d.
    bind_found IsDate (two_at t 8) _ λ hh e.
    bind_found IsDate (two_at t 10) _ λ mn f.
    bind_found IsDate (two_at t 12) _ λ ds g.
    record {
      year = two-below t 0 a;
      month = two-below t 2 b;
      day = two-below t 4 c;
      weekday = two-below t 6 d;
      hour = two-below t 8 e;
      minute = two-below t 10 f;
      daylight = two-below t 12 g;
    })
    tt

pub item_fits : (t : List ℕ) {s : List ℕ} → octets_in t ≡ some s → IsItem s
item_fits t e = record { few = bytes-few t e; bytes = bytes-are_bytes t e }

pub numbers-found : (t : List ℕ) → Found IsNumbers (numbers_in t)
unfolding numbers_in
numbers-found t =
    cond-by (Found IsNumbers) (eqb (length t) 32) _ _
    (λ h. each_found IsNumbers (octets_in t)
    (λ s e. record { sixteen = omega (arith, eqb-true (length t) 32 h, bytes-length t e); bytes = bytes-are_bytes t e }))
    (λ _. tt)

-- ---- requests

get-found : (t : List ℕ) → Found IsRequest (get_in t)
unfolding get_in
get-found t =
    test_found IsRequest (eqb (length t) 4) _ _
    (bind_found IsRequest (two_at t 0) _ λ page a.
    bind_found IsRequest (two_at t 2) _ λ code b.
    (two-below t 0 a, two-below t 2 b))
    tt

set_found : (t : List ℕ) → Found IsRequest (set_in t)
unfolding set_in
set_found t =
    test_found IsRequest (eqb (length t) 8) _ _
    (bind_found IsRequest (two_at t 0) _ λ page a.
    bind_found IsRequest (two_at t 2) _ λ code b.
    bind_found IsRequest (four_at t 4) _ λ value c.
    (two-below t 0 a, two-below t 2 b, four_below t 4 c))
    tt

power-found : (t : List ℕ) → Found IsRequest (power_control_in t)
unfolding power_control_in
power-found t = test_found IsRequest (eqb (length t) 4) _ _ (bind_found IsRequest (four_at t 0) _ λ mode a. four_below t 0 a) tt

schedule_read-found : (t : List ℕ) → Found IsRequest (schedule_read_in t)
unfolding schedule_read_in
schedule_read-found t = test_found IsRequest (eqb (length t) 2) _ _ (bind_found IsRequest (two_at t 0) _ λ program a. two-below t 0 a) tt

schedule_enable-found : (t : List ℕ) → Found IsRequest (schedule_enable_in t)
unfolding schedule_enable_in
schedule_enable-found t =
    test_found IsRequest (eqb (length t) 4) _ _
    (bind_found IsRequest (two_at t 0) _ λ program a.
    bind_found IsRequest (two_at t 2) _ λ enable b.
    (two-below t 0 a, two-below t 2 b))
    tt

command_found : (t : List ℕ) → Found IsRequest (command_in t)
unfolding command_in
command_found t =
    test_found IsRequest (is_name power_read_name t) _ _ tt
    (test_found IsRequest (is_name date_read_name t) _ _ tt
    (test_found IsRequest (is_name (item_read_name Item.Serial) t) _ _ tt
    (test_found IsRequest (is_name (item_read_name Item.Model) t) _ _ tt
    (test_found IsRequest (is_name (item_read_name Item.Tag) t) _ _ tt
    (test_found IsRequest (is_name (item_read_name Item.FormerTag) t) _ _ tt
    (test_found IsRequest (begins_with power_control_name t) _ _ (power-found (drop 6 t))
    (test_found IsRequest (begins_with date_write_name t) _ _
    (map_found IsRequest date_write (date_in (drop 4 t)) (λ d e. rw e at (date_found (drop 4 t))))
    (test_found IsRequest (begins_with schedule_read_name t) _ _ (schedule_read-found (drop 4 t))
    (test_found IsRequest (begins_with schedule_enable_name t) _ _ (schedule_enable-found (drop 4 t)) tt)))))))))

pub request-fits : (kind : ℕ) (t : List ℕ) → Found IsRequest (request_in kind t)
unfolding request_in
request-fits kind t =
    test_found IsRequest (eqb kind type_c) _ _ (get-found t)
    (test_found IsRequest (eqb kind type_e) _ _ (set_found t)
    (test_found IsRequest (eqb kind type_a) _ _
    (test_found IsRequest (begins_with tag_write_name t) _ _
    (map_found IsRequest tag_write (octets_in (drop 4 t)) (λ _. item_fits (drop 4 t)))
    (test_found IsRequest (begins_with schedule_write_name t) _ _
    (map_found IsRequest (λ numbers. schedule (schedule_write numbers)) (numbers_in (drop 4 t)) (λ _ e. rw e at (numbers-found (drop 4 t))))
    (command_found t))) tt))
