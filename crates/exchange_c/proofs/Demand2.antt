-- Demand 2 in C's numbers, put together.
use Rattle.station_c.proofs.Listed.{listed_back}
use Rattle.exchange_c.specs.Demand2.{Demand2C}
use Rattle.exchange_c.proofs.Calls.{passed, arguments}
use Rattle.exchange_c.proofs.Replies.{replies_told, spelt_told, told_replies}
use Rattle.exchange_c.proofs.Exchanged.{exchanged}
use Rattle.exchange_c.proofs.Erase.{erased, erased_by_all}
use Rattle.exchange_c.proofs.StoredBytes.{bytes_kept}
use Rattle.exchange_c.proofs.Unused.{unused_ready}

pub demand2 : Demand2C
demand2 =
    record {
      passed = passed;
      arguments = arguments;
      listed_back = listed_back;
      replies_told = replies_told;
      spelt_told = spelt_told;
      told_replies = told_replies;
      exchanged = exchanged;
      erased = erased;
      erased_by_all = erased_by_all;
      unused_ready = unused_ready;
      bytes_kept = bytes_kept;
    }
