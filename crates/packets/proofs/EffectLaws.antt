-- What a good packet stores, request by request, by the store's laws: few bytes, within the store, not the mark, and every field stays in range.
use mathlib.Core.Path.{◌≡◌, refl, subst}
use mathlib.Core.Bool.{true, ◌&&◌}
use mathlib.Core.List.{List, [], ◌∷◌}
use mathlib.Core.Logic.{inl, inr}
use mathlib.Core.Option.{Option, none, some}
use Prim.Native.Nat.{ℕ, ◌≤◌}
use native.Mathlib.Omega.{arith}
use lib.Dec.{eqb}
use borrow.Author.Tests.{leb-true}
use Rattle.bitfield.proofs.Laws.{byte_put}
use lib.ListN.{length, get_or}
use Rattle.plan.specs.Stores.{Entry, applied}
use Rattle.plan.specs.Inner.{Within, Committable}
use Rattle.wire.proofs.Tests.{cond-by, both}
use Rattle.messages.specs.Message.{ScheduleRequest, Request, Reply, IsRequest}
use Rattle.messages.specs.Message.ScheduleRequest.{schedule_read, schedule_write, schedule_enable}
use Rattle.messages.specs.Message.Request.{get_parameter, set_parameter, power_read, power_control, date_read, date_write, item_read, tag_write, schedule}
use Rattle.messages.specs.Read.{request_in}
use Rattle.messages.proofs.ParseLaws.{Found, request-fits}
use Rattle.messages.specs.declared.message.Date.{Date}
use Rattle.store.specs.Fields.{Field, fits, field_stores}
use Rattle.store.specs.Layout.{power}
use Rattle.store.specs.Settings.{field_of, setting_at, accepts, kept}
use Rattle.store.specs.Contents.{is_on, is_storable, date_stores, tag_stores}
use Rattle.store.specs.declared.settings.Row.{Row}
use Rattle.store.proofs.StoreLaws.{is_field, field-placed, field-keeps_mark, field-keeps_rest, field-applied, field-few, field-within}
use Rattle.store.proofs.SettingLaws.{setting-listed, setting-field, kept-fits}
use Rattle.store.proofs.DateLaws.{date_keeps_byte, date_keeps_rest, date_applied, date_count, date_within}
use Rattle.store.proofs.TagLaws.{tag_count, tag_within, tag_written_lem}
use Rattle.layouts.specs.Layouts.{in_range}
use Rattle.layouts.proofs.RangeLaws.{range-write, range-date, range-tag, range-program, range-enable}
use Rattle.layouts.proofs.SpareLaws.{SpareKept, spare_same, spare_rest, spare_program, spare_enable}
use Rattle.schedule.specs.Programs.{program_stores, enable_stores, enable_field}
use Rattle.calendar.specs.Calendar.{is_accepted}
use Rattle.schedule.specs.Numbers.{is_accepted as accepts-program, is_listed, is_enable, kept_fields}
use Rattle.schedule.proofs.ProgramLaws.{program_applied, program_count, program_within, program_keeps_byte, enable-applied, enable-count, enable-within}
use Rattle.schedule.proofs.NumberLaws.{accepted-listed, kept-fit, kept-in_range}
use Rattle.calls.specs.Board.{Identity}
use Rattle.actions.proofs.Laws.{accepted-storable}
use Rattle.actions.specs.Act.{
  Effect,
  replies,
  begins,
  is_erase,
  get_effect,
  set_listed,
  set_effect,
  power_read_effect,
  power_control_effect,
  date_write_effect,
  schedule_write_effect,
  schedule_enable_effect,
  schedule_effect,
  effect_of,
  effect,
}

-- ---- a tag that was read has at most 16 bytes, and a schedule's numbers are 16

abbrev pub SixteenIn : ScheduleRequest → Type 0
SixteenIn (schedule_read k) = Unit {0}
SixteenIn (schedule_write numbers) = length numbers ≡ 16
SixteenIn (schedule_enable k enable) = Unit {0}

abbrev pub FewIn : Request → Type 0
FewIn (get_parameter page code) = Unit {0}
FewIn (set_parameter page code value) = Unit {0}
FewIn power_read = Unit {0}
FewIn (power_control mode) = Unit {0}
FewIn date_read = Unit {0}
FewIn (date_write d) = Unit {0}
FewIn (item_read x) = Unit {0}
FewIn (tag_write tag) = length tag ≤ 16
FewIn (schedule r) = SixteenIn r

abbrev pub Few : Option Request → Type 0
Few none = Unit {0}
Few (some r) = FewIn r

request-few_in : (r : Request) → IsRequest r → FewIn r
request-few_in (get_parameter page code) h = tt
request-few_in (set_parameter page code value) h = tt
request-few_in power_read h = tt
request-few_in (power_control mode) h = tt
request-few_in date_read h = tt
request-few_in (date_write d) h = tt
request-few_in (item_read x) h = tt
request-few_in (tag_write tag) h = h.few
request-few_in (schedule (schedule_read k)) h = tt
request-few_in (schedule (schedule_write numbers)) h = h.sixteen
request-few_in (schedule (schedule_enable k enable)) h = tt

option_few : (q : Option Request) → Found IsRequest q → Few q
option_few none h = tt
option_few (some r) h = request-few_in r h

pub request-few : (kind : ℕ) (t : List ℕ) → Few (request_in kind t)
request-few kind t = option_few (request_in kind t) (request-fits kind t)

-- ---- what the stores of a request keep

-- entries that a plan and the store can take, that leave the mark, the spare bits and bytes, and every field in range
pub record Keeps (m : List ℕ) (es : List Entry) : Type 0 where
  pub ready : Committable 128 es
  pub mark : get_or (applied es m) 0 0 ≡ get_or m 0 0
  pub spare : SpareKept m (applied es m)
  pub ranged : in_range (applied es m) ≡ true

abbrev pub Kept : List ℕ → Effect → Type 0
Kept m (replies r es) = Keeps m es
Kept m begins = Unit {0}

within-head : (es : List Entry) → Within 12 es → Within 128 es
within-head [] w = tt
within-head (e ∷ es) w = (omega arith, within-head es w.1)

module _ (m : List ℕ) (size : length m ≡ 128) (ranged : in_range m ≡ true) where
  none-keeps : Keeps m []
  none-keeps = record { ready = record { few = omega arith; within = tt }; mark = refl; spare = spare_same m; ranged = ranged }

  -- one field
  field-keeps : (f : Field) (v : ℕ) → is_field f ≡ true → fits f v ≡ true → Keeps m (field_stores m f v)
  field-keeps f v e h =
      let is = field-applied m f v in
      let p = field-placed f e in
      record {
        ready = record { few = omega (arith, field-few m f v e); within = field-within m f v e };
        mark = rw is (field-keeps_mark m f v e);
        spare = rw is (spare_rest m _ (field-keeps_rest m f v e));
        ranged = rw is (range-write m size ranged f v e (omega arith) h);
      }

  pub date_keeps : (d : Date) → is_storable d ≡ true → Keeps m (date_stores m d)
  date_keeps d h =
      let is = date_applied m d in
      record {
        ready = record { few = omega (arith, date_count m d (omega arith)); within = within-head (date_stores m d) (date_within m d) };
        mark = rw is (date_keeps_byte m d 0 (inl (omega arith)));
        spare = rw is (spare_rest m _ (date_keeps_rest m d));
        ranged = rw is (range-date m size ranged d h);
      }

  tag_keeps : (tag : List ℕ) → length tag ≤ 16 → Keeps m (tag_stores m tag)
  tag_keeps tag h =
      record {
        ready = record { few = omega (arith, tag_count m tag size h); within = tag_within m tag size h };
        mark = (tag_written_lem m tag size h).outside 0 (inl (omega arith));
        spare = spare_rest m _ (tag_written_lem m tag size h).rest;
        ranged = range-tag m size ranged tag h;
      }

  program_keeps : (numbers : List ℕ) → accepts-program numbers ≡ true → Keeps m (program_stores m (get_or numbers 0 0) (kept_fields numbers))
  program_keeps numbers h =
      let k = get_or numbers 0 0 in
      let fs = kept_fields numbers in
      let listed = accepted-listed numbers h in
      let is = program_applied m k fs in
      record {
        ready = record { few = omega (arith, program_count m k fs size listed); within = program_within m k fs listed };
        mark = rw is (program_keeps_byte m k fs 0 (inl (omega arith)));
        spare = rw is (spare_program m k fs listed);
        ranged = rw is (range-program m size ranged k fs listed refl (kept-fit numbers h) (kept-in_range numbers h));
      }

  enable_keeps : (k enable : ℕ) → (is_listed k && is_enable enable) ≡ true → Keeps m (enable_stores m k enable)
  enable_keeps k enable h =
      let b = both (is_listed k) (is_enable enable) h in
      let listed = leb-true k 6 b.0 in
      let is = enable-applied m k enable in
      record {
        ready = record { few = omega (arith, enable-count m k enable size (omega arith)); within = enable-within m k enable (omega arith) };
        mark = rw is (byte_put m (enable_field k).at 1 enable 0 (inr (omega arith)));
        spare = rw is (spare_enable m k enable (omega arith));
        ranged = rw is (range-enable m size ranged k enable (omega arith) (leb-true enable 1 b.1));
      }

  schedule_keeps : (r : ScheduleRequest) → Kept m (schedule_effect m r)
  unfolding schedule_effect schedule_write_effect schedule_enable_effect
  schedule_keeps (schedule_read k) = none-keeps
  schedule_keeps (schedule_write numbers) = cond-by (Kept m) (accepts-program numbers) _ _ (λ t. program_keeps numbers t) (λ _. none-keeps)
  schedule_keeps (schedule_enable k enable) =
      cond-by (Kept m) (is_listed k && is_enable enable) _ _ (λ t. enable_keeps k enable t) (λ _. none-keeps)

  set_keeps : (page code v : ℕ) (q : Option Row) → setting_at page code ≡ q → Kept m (set_listed m page code v q)
  set_keeps page code v none e = none-keeps
  set_keeps page code v (some r) e =
      cond-by (Kept m) (is_on m && accepts r.values v) _ _
      (λ t. field-keeps (field_of r) (kept r.values v) (setting-field r (setting-listed page code r e))
      (kept-fits r v (both (is_on m) (accepts r.values v) t).1)) (λ _. none-keeps)

  request_keeps : (i : Identity) (r : Request) → FewIn r → Kept m (effect_of i m r)
  unfolding effect_of get_effect set_effect power_read_effect power_control_effect date_write_effect
  request_keeps i (get_parameter page code) h = none-keeps
  request_keeps i (set_parameter page code v) h =
      cond-by (Kept m) (is_erase page code) _ _
      (λ _. cond-by (Kept m) (eqb v 1) _ _ (λ _. tt) (λ _. none-keeps)) (λ _. set_keeps page code v (setting_at page code) refl)
  request_keeps i power_read h = none-keeps
  request_keeps i (power_control mode) h =
      cond-by (Kept m) (eqb mode 1) _ _ (λ _. field-keeps power 1 refl refl)
      (λ _. cond-by (Kept m) (eqb mode 4) _ _ (λ _. field-keeps power 0 refl refl) (λ _. none-keeps))
  request_keeps i date_read h = none-keeps
  request_keeps i (date_write d) h = cond-by (Kept m) (is_accepted d) _ _ (λ t. date_keeps d (accepted-storable d t)) (λ _. none-keeps)
  request_keeps i (item_read x) h = none-keeps
  request_keeps i (tag_write tag) h = tag_keeps tag h
  request_keeps i (schedule r) h = schedule_keeps r

  pub option_keeps : (i : Identity) (q : Option Request) → Few q → Kept m (effect i m q)
  option_keeps i none h = none-keeps
  option_keeps i (some r) h = request_keeps i r h

-- ---- every effect of a text, on a store in range

module _ (i : Identity) (m : List ℕ) (kind : ℕ) (text : List ℕ) {r : Reply} {es : List Entry} (size : length m ≡ 128)
    (ranged : in_range m ≡ true) (is : effect i m (request_in kind text) ≡ replies r es) where
  pub effect-keeps : Keeps m es
  effect-keeps = subst (Kept m) is (option_keeps m size ranged i (request_in kind text) (request-few kind text))

  pub effect-ready : Committable 128 es
  effect-ready = effect-keeps.ready
