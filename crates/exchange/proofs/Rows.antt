-- The rows of the message table, put together.
use mathlib.Core.Path.{◌≡◌, refl, ap}
use mathlib.Core.List.{List}
use mathlib.Core.Option.{Option, none, some}
use Prim.Native.Nat.{ℕ}
use Rattle.messages.specs.Message.{Request}
use Rattle.messages.specs.Read.{request_in}
use Rattle.messages.proofs.WrittenBack.{request-written_back}
use Rattle.calls.specs.Board.{Identity}
use Rattle.actions.specs.Act.{effect}
use Rattle.exchange.specs.Rows.{Ready, IsOther, Rows}
use Rattle.exchange.proofs.RowLaws.{ready-exchanged}
use Rattle.exchange.proofs.Sets.{get, get_unlisted_law, get_erase, set, set_refused, set_unlisted, set_erase_refused}
use Rattle.exchange.proofs.Erase.{set_erase}
use Rattle.exchange.proofs.Contents.{power_on, power_standby, power_control_law, power_refused, date_read_law, date_write_law, date_refused}
use Rattle.exchange.proofs.Contents.{serial_read, model_read, tag_read, former_read, tag_write_law}

-- what spells no request is read as none
other-unread : (kind : ℕ) (text : List ℕ) → IsOther kind text → request_in kind text ≡ none
other-unread kind text other = go (request_in kind text) refl
  where
    go : (q : Option Request) → request_in kind text ≡ q → q ≡ none
    go none e = refl
    go (some r) e = let w = request-written_back kind text e in absurd (other r w.0 (w.1, w.2))

pub rows : (i : Identity) (m : List ℕ) → Ready i m → Rows i m
rows i m ready =
    record {
      get = get i m ready;
      get_unlisted_law = get_unlisted_law i m ready;
      get_erase = get_erase i m ready;
      set = set i m ready;
      set_refused = set_refused i m ready;
      set_unlisted = set_unlisted i m ready;
      set_erase_refused = set_erase_refused i m ready;
      set_erase = set_erase i m ready;
      power_on = power_on i m ready;
      power_standby = power_standby i m ready;
      power_control_law = power_control_law i m ready;
      power_refused = power_refused i m ready;
      date_read_law = date_read_law i m ready;
      date_write_law = date_write_law i m ready;
      date_refused = date_refused i m ready;
      serial_read = serial_read i m ready;
      model_read = model_read i m ready;
      tag_read = tag_read i m ready;
      former_read = former_read i m ready;
      tag_write_law = tag_write_law i m ready;
      other = λ kind digits text counted request least most other.
          ready-exchanged i m ready kind digits text counted request least most (ap (effect i m) (other-unread kind text other));
    }
