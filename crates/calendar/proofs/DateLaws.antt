-- An accepted date, test by test.
use mathlib.Core.Bool.{true}
use mathlib.Core.Path.{◌≡◌}
use Prim.Native.Nat.{◌≤◌}
use lib.Dec.{leb, eqb}
use borrow.Author.Tests.{eqb-true, leb-true, eq-eqb, le-leb}
use Rattle.wire.proofs.Tests.{both}
use Rattle.messages.specs.declared.message.Date.{Date}
use Rattle.calendar.specs.Calendar.{is_day, weekday_of, is_accepted}

pub record Accepted (d : Date) : Type 0 where
  pub is_day_law : is_day d.year d.month d.day ≡ true
  pub weekday : d.weekday ≡ weekday_of d.year d.month d.day
  pub hour : d.hour ≤ 23
  pub minute : d.minute ≤ 59
  pub daylight : d.daylight ≡ 0

pub accepted : (d : Date) → is_accepted d ≡ true → Accepted d
unfolding is_accepted
accepted d e =
    let s = both _ (eqb d.daylight 0) e in
    let m = both _ (leb d.minute 59) s.0 in
    let h = both _ (leb d.hour 23) m.0 in
    let w = both (is_day d.year d.month d.day) (eqb d.weekday (weekday_of d.year d.month d.day)) h.0 in
    record {
      is_day_law = w.0;
      weekday = eqb-true d.weekday (weekday_of d.year d.month d.day) w.1;
      hour = leb-true d.hour 23 h.1;
      minute = leb-true d.minute 59 m.1;
      daylight = eqb-true d.daylight 0 s.1;
    }

pub is_accepted_lem : (d : Date) → Accepted d → is_accepted d ≡ true
unfolding is_accepted
is_accepted_lem d a =
    rw (
      a.is_day_law,
      eq-eqb d.weekday (weekday_of d.year d.month d.day) a.weekday,
      le-leb d.hour 23 a.hour,
      le-leb d.minute 59 a.minute,
      eq-eqb d.daylight 0 a.daylight,
    )
