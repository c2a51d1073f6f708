-- A reply in which the station reads a refusal stores nothing: it reads what the board said, and no refusal of an effect has stores.
use mathlib.Core.Path.{◌≡◌, refl, sym, ap, ◌∙◌, subst}
use mathlib.Core.Bool.{true, ◌&&◌, false≢true}
use mathlib.Core.List.{List, []}
use mathlib.Core.Option.{Option, none, some}
use Prim.Native.Nat.{ℕ}
use lib.Dec.{eqb}
use Rattle.wire.proofs.Tests.{cond-by}
use Rattle.plan.specs.Stores.{Entry, applied}
use Rattle.messages.specs.Message.{ScheduleRequest, Request}
use Rattle.messages.specs.Message.ScheduleRequest.{schedule_read, schedule_write, schedule_enable}
use Rattle.messages.specs.Message.Request.{get_parameter, set_parameter, power_read, power_control, date_read, date_write, item_read, tag_write, schedule}
use Rattle.messages.specs.Read.{request_in}
use Rattle.store.specs.Settings.{setting_at, accepts}
use Rattle.calendar.specs.Calendar.{is_accepted}
use Rattle.store.specs.Contents.{is_on}
use Rattle.store.specs.declared.settings.Row.{Row}
use Rattle.schedule.specs.Numbers as program
use Rattle.schedule.specs.Numbers.{is_listed, is_enable}
use Rattle.calls.specs.Board.{Identity}
use Rattle.actions.specs.Act.{Effect, replies, begins, effect_of, effect}
use Rattle.actions.specs.Act.{is_erase, get_effect, set_listed, set_effect, power_read_effect, power_control_effect, date_write_effect}
use Rattle.actions.specs.Act.{schedule_write_effect, schedule_enable_effect, schedule_effect}
use Rattle.station.specs.Read as station
use Rattle.exchange.specs.Rows.{is_refusal, RefusalKeeps}
use Rattle.exchange.proofs.Replies.{replies_read}

-- a refusal comes with no stores
abbrev RefusesBare : Effect → Type 0
RefusesBare (replies x es) = is_refusal x ≡ true → es ≡ []
RefusesBare begins = Unit {0}

module _ (i : Identity) (m : List ℕ) where
  listed_bare : (page code v : ℕ) (q : Option Row) → RefusesBare (set_listed m page code v q)
  listed_bare page code v none = λ _. refl
  listed_bare page code v (some r) = cond-by RefusesBare (is_on m && accepts r.values v) _ _ (λ _ e. absurd (false≢true e)) (λ _ _. refl)

  schedule-bare : (r : ScheduleRequest) → RefusesBare (schedule_effect m r)
  unfolding schedule_effect schedule_write_effect schedule_enable_effect
  schedule-bare (schedule_read k) = λ _. refl
  schedule-bare (schedule_write numbers) = cond-by RefusesBare (program.is_accepted numbers) _ _ (λ _ e. absurd (false≢true e)) (λ _ _. refl)
  schedule-bare (schedule_enable k enable) =
      cond-by RefusesBare (is_listed k && is_enable enable) _ _ (λ _ e. absurd (false≢true e)) (λ _ _. refl)

  request-bare : (r : Request) → RefusesBare (effect_of i m r)
  unfolding effect_of get_effect set_effect power_read_effect power_control_effect date_write_effect
  request-bare (get_parameter page code) = λ _. refl
  request-bare (set_parameter page code v) =
      cond-by RefusesBare (is_erase page code) _ _
      (λ _. cond-by RefusesBare (eqb v 1) _ _ (λ _. tt) (λ _ _. refl)) (λ _. listed_bare page code v (setting_at page code))
  request-bare power_read = λ _. refl
  request-bare (power_control mode) =
      cond-by RefusesBare (eqb mode 1) _ _ (λ _ e. absurd (false≢true e))
      (λ _. cond-by RefusesBare (eqb mode 4) _ _ (λ _ e. absurd (false≢true e)) (λ _ _. refl))
  request-bare date_read = λ _. refl
  request-bare (date_write d) = cond-by RefusesBare (is_accepted d) _ _ (λ _ e. absurd (false≢true e)) (λ _ _. refl)
  request-bare (item_read x) = λ _. refl
  request-bare (tag_write tag) = λ e. absurd (false≢true e)
  request-bare (schedule r) = schedule-bare r

  effect-bare : (q : Option Request) → RefusesBare (effect i m q)
  effect-bare none = λ _. refl
  effect-bare (some r) = request-bare r

pub refusal_keeps : RefusalKeeps
refusal_keeps b s m lent n x h e read t =
    let w = replies_read b s m lent n h e in
    let both_read : station.reply s.ident.id w.said ≡ station.reply s.ident.id x = sym w.intact.read ∙ read in
    let is : w.said ≡ x = cc in
    ap (λ (es : List Entry). applied es m) (subst RefusesBare w.effected (effect-bare s.ident m (request_in _ _)) (ap is_refusal is ∙ t))
