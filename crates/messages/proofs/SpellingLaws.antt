-- A text that spells a message says what the message's own text says: its name is the same, and its digits have the same values.
use Prim.Native.Nat.{ℕ, zero, suc, ◌≤◌, ◌<◌}
use mathlib.Core.List.{List, [], ◌∷◌, ◌++◌}
use mathlib.Core.Logic.{⊎_elim, inl}
use mathlib.Core.Option.{some}
use mathlib.Core.Path.{◌≡◌, refl, sym, ap, ◌∙◌, subst}
use native.Mathlib.Omega.{arith}
use lib.ListN.{length, take, drop, take-append-drop}
use lib.Seq.{take_at}
use Rattle.wire.specs.Digits.{two, four, hex_of, SameDigit, SameDigits}
use Rattle.wire.specs.Packet.{packet, request_packet, reply_packet, length_digits}
use Rattle.wire.proofs.Tests.{and-false}
use Rattle.wire.proofs.CaseLaws.{same-itself, same_length, same-behind, same_drop, same-two, same-four, same-octets}
use Rattle.messages.specs.Message.{Request, Reply, IsRequest, IsReply}
use Rattle.messages.specs.Message.ScheduleRequest.{schedule_read, schedule_write, schedule_enable}
use Rattle.messages.specs.Message.ScheduleReply.{schedule_read_reply, schedule_write_reply, schedule_enable_reply}
use Rattle.messages.specs.Message.Request.{get_parameter, set_parameter, power_read, power_control, date_read, date_write, item_read, tag_write, schedule}
use Rattle.messages.specs.Message.Reply.{null, get_reply, set_reply, power_read_reply, power_control_reply, date_read_reply, date_write_reply, item_reply, tag_write_reply, schedule_reply}
use Rattle.messages.specs.Text.{power_read_name, power_control_name, power_read_reply_fixed, date_read_name, date_read_reply_name, date_write_name, date_write_reply_name}
use Rattle.messages.specs.Text.{item_read_name, item_reply_name, tag_write_name, tag_write_reply_name, schedule_read_name, schedule_read_reply_name, schedule_write_name}
use Rattle.messages.specs.Text.{schedule_write_reply_name, schedule_enable_name, schedule_enable_reply_name, null_name}
use Rattle.messages.specs.Text.{date_text, schedule_text, schedule_reply_text, request_type, request_text, reply_type, reply_text}
use Rattle.messages.specs.Read.{
  begins_with,
  is_name,
  flag_at,
  mode_at,
  date_in,
  numbers_in,
  get_in,
  set_in,
  power_control_in,
  schedule_read_in,
  schedule_enable_in,
  command_in,
  request_in,
  parameter_in,
  power_read_reply_in,
  power_control_reply_in,
  date_write_reply_in,
  tag_write_reply_in,
  schedule_write_reply_in,
  schedule_enable_reply_in,
  plain_reply_in,
  command_reply_in,
  reply_in,
}
use Rattle.messages.specs.Spelling.{Spells, SpellsRequest, SpellsReply, SpeltRequest, SpeltReply}
use Rattle.messages.specs.declared.message.Item.{Item}
use Rattle.messages.proofs.RoundTrips.{request-back, reply-back}

pub spells-itself : (at n : ℕ) (t : List ℕ) → Spells at n t t
spells-itself at n t = record { digits = same-itself t; name = refl }

-- a message as it is written is one of its spellings
pub request-written : (dest : ℕ) (r : Request) → SpeltRequest dest r (request_packet dest (request_type r) (request_text r))
unfolding packet
request-written dest r =
    let t = request_text r in
    record { digits = length_digits t; text = t; counted = same-itself (length_digits t); said = spells-itself 0 _ t; whole = refl }

pub reply-written : (source : ℕ) (r : Reply) → SpeltReply source r (reply_packet source (reply_type r) (reply_text r))
unfolding packet
reply-written source r =
    let t = reply_text r in
    record { digits = length_digits t; text = t; counted = same-itself (length_digits t); said = spells-itself _ _ t; whole = refl }

-- ---- the fields of a text

module _ (s t : List ℕ) (h : SameDigits s t) where
  same_flag : (at : ℕ) → flag_at t at ≡ flag_at s at
  unfolding flag_at
  same_flag at = rw (same-two s t h at)

  same-mode : (at : ℕ) → mode_at t at ≡ mode_at s at
  unfolding mode_at
  same-mode at = rw (same-four s t h at)

  same-date : date_in t ≡ date_in s
  unfolding date_in
  same-date =
      rw (
        same_length s t h,
        same-two s t h 0,
        same-two s t h 2,
        same-two s t h 4,
        same-two s t h 6,
        same-two s t h 8,
        same-two s t h 10,
        same-two s t h 12,
      )

  same_numbers : numbers_in t ≡ numbers_in s
  unfolding numbers_in
  same_numbers = rw (same_length s t h, same-octets s t h)

-- ---- what stands behind a name

-- what holds of the name with any such digits behind it holds of a text that spells it
named : (P : List ℕ → Type 0) (name s t : List ℕ) → Spells 0 (length name) (name ++ s) t → ((u : List ℕ) → SameDigits s u → P (name ++ u)) → P t
named P name s t h f =
    let u = drop (length name) t in
    let is : t ≡ name ++ u = sym (take-append-drop (length name) t) ∙ ap (λ (n : List ℕ). n ++ u) (h.name ∙ take_at name s (length name) refl) in
    subst P (sym is) (f u (same-behind name s u (subst (SameDigits (name ++ s)) is h.digits)))

-- a text that is a name
named_alone : (P : List ℕ → Type 0) (name t : List ℕ) → Spells 0 (length name) (name ++ []) t → P (name ++ []) → P t
unfolding SameDigits
named_alone P name t h p = named P name [] t h alone
  where
    alone : (u : List ℕ) → SameDigits [] u → P (name ++ u)
    alone [] e = p
    alone (b ∷ u) e = absurd e

-- ---- requests

module _ (s t : List ℕ) (h : SameDigits s t) where
  same-get : get_in t ≡ get_in s
  unfolding get_in
  same-get = rw (same_length s t h, same-two s t h 0, same-two s t h 2)

  same_set : set_in t ≡ set_in s
  unfolding set_in
  same_set = rw (same_length s t h, same-two s t h 0, same-two s t h 2, same-four s t h 4)

  same_power : power_control_in t ≡ power_control_in s
  unfolding power_control_in
  same_power = rw (same_length s t h, same-four s t h 0)

  same-schedule_read : schedule_read_in t ≡ schedule_read_in s
  unfolding schedule_read_in
  same-schedule_read = rw (same_length s t h, same-two s t h 0)

  same-schedule_enable : schedule_enable_in t ≡ schedule_enable_in s
  unfolding schedule_enable_in
  same-schedule_enable = rw (same_length s t h, same-two s t h 0, same-two s t h 2)

-- a text of a type says what a request's own text says
abbrev Says : Request → List ℕ → Type 0
Says r t = request_in (request_type r) t ≡ request_in (request_type r) (request_text r)

request-same : (r : Request) (t : List ℕ) → SpellsRequest r t → Says r t
unfolding request_in request_type request_text schedule_text begins_with is_name command_in
request-same (get_parameter page code) t h = same-get (request_text (get_parameter page code)) t h.digits
request-same (set_parameter page code value) t h = same_set (request_text (set_parameter page code value)) t h.digits
request-same power_read t h = named_alone (Says power_read) power_read_name t h refl
request-same (power_control mode) t h = named (Says (power_control mode)) power_control_name (four mode) t h (λ u e. simp (and-false, same_power (four mode) u e))
request-same date_read t h = named_alone (Says date_read) date_read_name t h refl
request-same (date_write d) t h = named (Says (date_write d)) date_write_name (date_text d) t h (λ u e. simp (and-false, same-date (date_text d) u e))
request-same (item_read Item.Serial) t h = named_alone (Says (item_read Item.Serial)) (item_read_name Item.Serial) t h refl
request-same (item_read Item.Model) t h = named_alone (Says (item_read Item.Model)) (item_read_name Item.Model) t h refl
request-same (item_read Item.Tag) t h = named_alone (Says (item_read Item.Tag)) (item_read_name Item.Tag) t h refl
request-same (item_read Item.FormerTag) t h = named_alone (Says (item_read Item.FormerTag)) (item_read_name Item.FormerTag) t h refl
request-same (tag_write tag) t h = named (Says (tag_write tag)) tag_write_name (hex_of tag) t h (λ u e. rw (same-octets (hex_of tag) u e))
request-same (schedule (schedule_read k)) t h =
    named (Says (schedule (schedule_read k))) schedule_read_name (two k) t h (λ u e. simp (and-false, same-schedule_read (two k) u e))
request-same (schedule (schedule_write numbers)) t h =
    named (Says (schedule (schedule_write numbers))) schedule_write_name (hex_of numbers) t h (λ u e. rw (same_numbers (hex_of numbers) u e))
request-same (schedule (schedule_enable k enable)) t h =
    named (Says (schedule (schedule_enable k enable))) schedule_enable_name (two k ++ two enable) t h
    (λ u e. simp (and-false, same-schedule_enable (two k ++ two enable) u e))

pub request-spelt : (r : Request) (t : List ℕ) → IsRequest r → SpellsRequest r t → request_in (request_type r) t ≡ some r
request-spelt r t is h = request-same r t h ∙ request-back r is

-- ---- replies

module _ (s t : List ℕ) (h : SameDigits s t) where
  same-parameter : (reply : ℕ → ℕ → ℕ → ℕ → ℕ → ℕ → Reply) → parameter_in reply t ≡ parameter_in reply s
  unfolding parameter_in
  same-parameter reply =
      rw (
        same_length s t h,
        same_flag s t h 0,
        same-two s t h 2,
        same-two s t h 4,
        same_flag s t h 6,
        same-four s t h 8,
        same-four s t h 12,
      )

  same-schedule_enabled : schedule_enable_reply_in t ≡ schedule_enable_reply_in s
  unfolding schedule_enable_reply_in
  same-schedule_enabled = rw (same_length s t h, same_flag s t h 0, same-two s t h 2, same-two s t h 4)

  -- behind a status
  same-date_written : date_write_reply_in t ≡ date_write_reply_in s
  unfolding date_write_reply_in
  same-date_written = rw (same_length s t h, same_flag s t h 0, same-date (drop 2 s) (drop 2 t) (same_drop 2 s t h))

  same-tag_written : tag_write_reply_in t ≡ tag_write_reply_in s
  unfolding tag_write_reply_in
  same-tag_written = rw (same_length s t h, same_flag s t h 0, same-octets (drop 2 s) (drop 2 t) (same_drop 2 s t h))

  same-schedule_written : schedule_write_reply_in t ≡ schedule_write_reply_in s
  unfolding schedule_write_reply_in
  same-schedule_written = rw (same_length s t h, same_flag s t h 0, same_numbers (drop 2 s) (drop 2 t) (same_drop 2 s t h))

-- a name in the text is found by its own bytes alone
begins-first : (name t : List ℕ) → begins_with name t ≡ begins_with name (take (length name) t)
unfolding begins_with
begins-first [] t = refl
begins-first (a ∷ name) [] = refl
begins-first (a ∷ name) (b ∷ t) = rw (begins-first name t)

begins-same : (name s t : List ℕ) → take (length name) t ≡ take (length name) s → begins_with name t ≡ begins_with name s
begins-same name s t e = begins-first name t ∙ ap (begins_with name) e ∙ sym (begins-first name s)

module _ (s t : List ℕ) (h : SameDigits s t) where
  same-power_status : take 8 (drop 2 t) ≡ take 8 (drop 2 s) → power_read_reply_in t ≡ power_read_reply_in s
  unfolding power_read_reply_in
  same-power_status e =
      rw (same_length s t h, same_flag s t h 0, begins-same power_read_reply_fixed (drop 2 s) (drop 2 t) e, same-mode s t h 10)

  same-power_controlled : take 6 (drop 2 t) ≡ take 6 (drop 2 s) → power_control_reply_in t ≡ power_control_reply_in s
  unfolding power_control_reply_in
  same-power_controlled e =
      rw (same_length s t h, same_flag s t h 0, begins-same power_control_name (drop 2 s) (drop 2 t) e, same-four s t h 8)

-- digits that are no letters have one case
unlettered : (P : List ℕ → Type 0) (a b : ℕ) (s t : List ℕ) → a < 0x41 → b < 0x41 → SameDigits (a ∷ b ∷ s) t
    → ((u : List ℕ) → SameDigits s u → P (a ∷ b ∷ u)) → P t
unfolding SameDigits
unlettered P a b s [] h k e f = absurd e
unlettered P a b s (c ∷ []) h k e f = absurd e.1
unlettered P a b s (c ∷ d ∷ t) h k e f = rw (one c a h e.0, one d b k e.1.0) (f t e.1.1)
  where
    one : (c a : ℕ) → a < 0x41 → SameDigit a c → c ≡ a
    one c a h e = ⊎_elim (λ q. q) (λ q. absurd (omega (arith, q.0))) e

abbrev ReplySays : Reply → List ℕ → Type 0
ReplySays r t = reply_in (reply_type r) t ≡ reply_in (reply_type r) (reply_text r)

-- 02 begins the power status alone, and 00 and 01 begin no name
power_read-same : (status mode : ℕ) (t : List ℕ) → SpellsReply (power_read_reply status mode) t → ReplySays (power_read_reply status mode) t
unfolding reply_in reply_type reply_text command_reply_in plain_reply_in begins_with is_name
power_read-same status mode t h =
    let s = two status ++ (power_read_reply_fixed ++ four mode) in
    unlettered (λ t. take 8 (drop 4 t) ≡ power_read_reply_fixed → ReplySays (power_read_reply status mode) t) 0x30 0x32 s t (omega arith) (omega arith) h.digits
    (λ u e n. simp and-false (same-power_status s u e n)) h.name

power_control-same : (status mode : ℕ) (t : List ℕ) → status ≤ 1 → SpellsReply (power_control_reply status mode) t
    → ReplySays (power_control_reply status mode) t
unfolding reply_in reply_type reply_text command_reply_in plain_reply_in begins_with is_name SameDigits
power_control-same zero mode t k h =
    let s = power_control_name ++ four mode in
    unlettered (λ t. take 6 (drop 2 t) ≡ power_control_name → ReplySays (power_control_reply 0 mode) t) 0x30 0x30 s t (omega arith) (omega arith) h.digits
    (λ u e n. simp and-false (same-power_controlled (0x30 ∷ 0x30 ∷ s) (0x30 ∷ 0x30 ∷ u) (inl refl, (inl refl, e)) n)) h.name
power_control-same (suc zero) mode t k h =
    let s = power_control_name ++ four mode in
    unlettered (λ t. take 6 (drop 2 t) ≡ power_control_name → ReplySays (power_control_reply 1 mode) t) 0x30 0x31 s t (omega arith) (omega arith) h.digits
    (λ u e n. simp and-false (same-power_controlled (0x30 ∷ 0x31 ∷ s) (0x30 ∷ 0x31 ∷ u) (inl refl, (inl refl, e)) n)) h.name
power_control-same (suc (suc status)) mode t k h = absurd (omega arith)

reply-same : (r : Reply) (t : List ℕ) → IsReply r → SpellsReply r t → ReplySays r t
unfolding reply_in reply_type reply_text schedule_reply_text command_reply_in plain_reply_in begins_with is_name
reply-same null t is h = named_alone (ReplySays null) null_name t h refl
reply-same (get_reply result page code operation largest value) t is h = same-parameter _ t h.digits get_reply
reply-same (set_reply result page code operation largest value) t is h = same-parameter _ t h.digits set_reply
reply-same (power_read_reply status mode) t is h = power_read-same status mode t h
reply-same (power_control_reply status mode) t is h = power_control-same status mode t is.0 h
reply-same (date_read_reply d) t is h =
    named (ReplySays (date_read_reply d)) date_read_reply_name (date_text d) t h (λ u e. simp (and-false, same-date (date_text d) u e))
reply-same (date_write_reply status d) t is h =
    let s = two status ++ date_text d in
    named (ReplySays (date_write_reply status d)) date_write_reply_name s t h (λ u e. simp and-false (same-date_written s u e))
reply-same (item_reply Item.Serial bytes) t is h =
    named (ReplySays (item_reply Item.Serial bytes)) (item_reply_name Item.Serial) (hex_of bytes) t h (λ u e. rw (same-octets (hex_of bytes) u e))
reply-same (item_reply Item.Model bytes) t is h =
    named (ReplySays (item_reply Item.Model bytes)) (item_reply_name Item.Model) (hex_of bytes) t h (λ u e. rw (same-octets (hex_of bytes) u e))
reply-same (item_reply Item.Tag bytes) t is h =
    named (ReplySays (item_reply Item.Tag bytes)) (item_reply_name Item.Tag) (hex_of bytes) t h (λ u e. rw (same-octets (hex_of bytes) u e))
reply-same (item_reply Item.FormerTag bytes) t is h =
    named (ReplySays (item_reply Item.FormerTag bytes)) (item_reply_name Item.FormerTag) (hex_of bytes) t h (λ u e. rw (same-octets (hex_of bytes) u e))
reply-same (tag_write_reply status tag) t is h =
    let s = two status ++ hex_of tag in
    named (ReplySays (tag_write_reply status tag)) tag_write_reply_name s t h (λ u e. same-tag_written s u e)
reply-same (schedule_reply (schedule_read_reply numbers)) t is h =
    named (ReplySays (schedule_reply (schedule_read_reply numbers))) schedule_read_reply_name (hex_of numbers) t h (λ u e. rw (same_numbers (hex_of numbers) u e))
reply-same (schedule_reply (schedule_write_reply status numbers)) t is h =
    let s = two status ++ hex_of numbers in
    named (ReplySays (schedule_reply (schedule_write_reply status numbers))) schedule_write_reply_name s t h (λ u e. same-schedule_written s u e)
reply-same (schedule_reply (schedule_enable_reply status k enable)) t is h =
    let s = two status ++ (two k ++ two enable) in
    named (ReplySays (schedule_reply (schedule_enable_reply status k enable))) schedule_enable_reply_name s t h (λ u e. simp and-false (same-schedule_enabled s u e))

pub reply-spelt : (r : Reply) (t : List ℕ) → IsReply r → SpellsReply r t → reply_in (reply_type r) t ≡ some r
reply-spelt r t is h = reply-same r t is h ∙ reply-back r is
