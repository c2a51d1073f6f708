-- Dates that a board stored before days and weekdays were asked for, such as 31 February (docs/RULES.md, 'Calendar', K2): they count as sound, and are shown
-- as stored.
use Rattle.std.specs.Prelude.{Bool, true, false, ◌&&◌, List, [], ◌∷◌, ◌≡◌, ℕ, leb, eqb}
use Rattle.bitfield.specs.Field.{bit}
use Rattle.messages.specs.Message.Request.{date_read}
use Rattle.messages.specs.Message.Reply.{date_read_reply}
use Rattle.messages.specs.declared.message.Date.{Date}
use Rattle.calls.specs.Board.{Identity}
use Rattle.calls.specs.Lists.{cut, started, run}
use Rattle.packets.specs.Packets.{BoardState, holding}
use Rattle.board.specs.BoardKind.{board_kind}
use Rattle.board.specs.Demand3.{Events}
use Rattle.exchange.specs.Rows.{Ready, Shows, is_within, date_in}

-- the dates that were accepted: YY 0..99, MM 1..12, DD 1..31, WW 0..6, HH 0..23, MN 0..59, DS 0
abbrev pub was_accepted : Date → Bool
was_accepted d =
    leb d.year 99 && (leb 1 d.month && leb d.month 12) && (leb 1 d.day && leb d.day 31)
    && leb d.weekday 6 && leb d.hour 23 && leb d.minute 59 && eqb d.daylight 0

-- A store that holds such a date, and else what m holds. With it a board is idle, a start gives an idle board and stores nothing, and a date read shows
-- the date.
pub record HoldsDate (i : Identity) (m : List ℕ) (d : Date) : Type 0 where
  pub store : List ℕ
  pub dated : date_in store ≡ d
  pub others : (k : ℕ) → is_within 54 30 k ≡ false → bit store k ≡ bit m k
  pub ready : Ready i store
  pub starts : (s : BoardState) (es : Events) → run board_kind i s store (cut ∷ es) ≡ started store ∷ run board_kind i (holding i []) store es
  pub shown : Shows i store date_read (date_read_reply d)

abbrev pub StoredDates : Identity → List ℕ → Type 0
StoredDates i m = (d : Date) → was_accepted d ≡ true → HoldsDate i m d
