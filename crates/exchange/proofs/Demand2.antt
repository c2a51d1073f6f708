-- Demand 2, put together from requests, replies, rows and refusals.
use Rattle.exchange.specs.Demand2.{Demand2}
use Rattle.station.proofs.ReadSpelt.{spelt_read}
use Rattle.exchange.proofs.Requests.{requests, any_case}
use Rattle.exchange.proofs.Replies.{replies_read, erase_read}
use Rattle.exchange.proofs.Rows.{rows}
use Rattle.exchange.proofs.ScheduleRows.{schedule_rows}
use Rattle.exchange.proofs.Contents.{dates_in_days, days_taken}
use Rattle.exchange.proofs.StoredDates.{stored_dates}
use Rattle.exchange.proofs.Refusals.{refusal_keeps}

pub demand2 : Demand2
demand2 =
    record {
      requests = requests;
      any_case = any_case;
      replies_read = replies_read;
      erase_read = erase_read;
      replies_any_case = λ id r p least most h. spelt_read id r least most h p;
      rows = rows;
      schedule_rows = schedule_rows;
      dates_in_days = dates_in_days;
      days_taken = days_taken;
      stored_dates = stored_dates;
      refusal_keeps = refusal_keeps;
    }
