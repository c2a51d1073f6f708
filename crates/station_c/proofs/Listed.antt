-- A kind, numbers and bytes are those of one reply: the reply is built from them again.
use mathlib.Core.Bool.{cond}
use mathlib.Core.List.{List}
use mathlib.Core.Path.{◌≡◌, refl, sym, ◌∙◌}
use Prim.Native.Nat.{ℕ, ◌+◌}
use lib.Dec.{eqb}
use lib.ListN.{get_or}
use Rattle.messages.specs.Message.{Reply, reply_bytes}
use Rattle.messages.specs.Message.ScheduleReply.{schedule_read_reply, schedule_write_reply, schedule_enable_reply}
use Rattle.messages.specs.Message.Reply.{null, get_reply, set_reply, power_read_reply, power_control_reply, date_read_reply, date_write_reply, item_reply, tag_write_reply, schedule_reply}
use Rattle.messages.specs.declared.message.Date.{Date}
use Rattle.messages.specs.declared.message.Item.{Item}
use Rattle.station_c.specs.Read.{reply_kind, numbers_of}

module _ (numbers bytes : List ℕ) where
  abbrev parameter : (ℕ → ℕ → ℕ → ℕ → ℕ → ℕ → Reply) → Reply
  parameter reply =
      reply (get_or numbers 0 0) (get_or numbers 1 0) (get_or numbers 2 0) (get_or numbers 3 0) (get_or numbers 4 0) (get_or numbers 5 0)

  -- its numbers stand behind so many others
  abbrev date : ℕ → Date
  date k =
      record {
        year = get_or numbers k 0;
        month = get_or numbers (k + 1) 0;
        day = get_or numbers (k + 2) 0;
        weekday = get_or numbers (k + 3) 0;
        hour = get_or numbers (k + 4) 0;
        minute = get_or numbers (k + 5) 0;
        daylight = get_or numbers (k + 6) 0;
      }

  -- the reply of a kind with these numbers and bytes
  abbrev listed : ℕ → Reply
  listed kind =
      cond (eqb kind 101) null
      (cond (eqb kind 102) (parameter get_reply)
      (cond (eqb kind 103) (parameter set_reply)
      (cond (eqb kind 104) (power_read_reply (get_or numbers 0 0) (get_or numbers 1 0))
      (cond (eqb kind 105) (power_control_reply (get_or numbers 0 0) (get_or numbers 1 0))
      (cond (eqb kind 106) (date_read_reply (date 0))
      (cond (eqb kind 107) (date_write_reply (get_or numbers 0 0) (date 1))
      (cond (eqb kind 108) (item_reply Item.Serial bytes)
      (cond (eqb kind 109) (item_reply Item.Model bytes)
      (cond (eqb kind 110) (item_reply Item.Tag bytes)
      (cond (eqb kind 111) (item_reply Item.FormerTag bytes)
      (cond (eqb kind 112) (tag_write_reply (get_or numbers 0 0) bytes)
      (cond (eqb kind 113) (schedule_reply (schedule_read_reply bytes))
      (cond (eqb kind 114) (schedule_reply (schedule_write_reply (get_or numbers 0 0) bytes))
      (schedule_reply (schedule_enable_reply (get_or numbers 0 0) (get_or numbers 1 0) (get_or numbers 2 0))))))))))))))))

listed_again : (x : Reply) → listed (numbers_of x) (reply_bytes x) (reply_kind x) ≡ x
listed_again null = refl
listed_again (get_reply result page code operation largest value) = refl
listed_again (set_reply result page code operation largest value) = refl
listed_again (power_read_reply status mode) = refl
listed_again (power_control_reply status mode) = refl
listed_again (date_read_reply d) = refl
listed_again (date_write_reply status d) = refl
listed_again (item_reply Item.Serial bytes) = refl
listed_again (item_reply Item.Model bytes) = refl
listed_again (item_reply Item.Tag bytes) = refl
listed_again (item_reply Item.FormerTag bytes) = refl
listed_again (tag_write_reply status tag) = refl
listed_again (schedule_reply (schedule_read_reply numbers)) = refl
listed_again (schedule_reply (schedule_write_reply status numbers)) = refl
listed_again (schedule_reply (schedule_enable_reply status program enable)) = refl

pub listed_back : (x y : Reply) → reply_kind x ≡ reply_kind y → numbers_of x ≡ numbers_of y → reply_bytes x ≡ reply_bytes y → x ≡ y
listed_back x y kind numbers bytes =
    let same : listed (numbers_of x) (reply_bytes x) (reply_kind x) ≡ listed (numbers_of y) (reply_bytes y) (reply_kind y) = rw (kind, numbers, bytes) in
    sym (listed_again x) ∙ same ∙ listed_again y
