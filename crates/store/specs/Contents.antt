-- Power, date and tags in the store (docs/RULES.md, 'What a good packet does', AC6, AC7 and AC9, and 'Store'): what is read, what may be stored,
-- what is stored.
use Rattle.std.specs.Prelude.{Bool, ◌&&◌, List, ◌++◌, ℕ, ◌+◌, eqb, length, take, drop}
use Rattle.wire.specs.Digits.{padded}
use Rattle.messages.specs.declared.message.Date.{Date}
use Rattle.plan.specs.Stores.{Entry, range_of}
use Rattle.store.specs.Fields.{read, write, fits, bytes_around}
use Rattle.store.specs.Layout.{power, year, month, day, weekday, hour, minute, tag_length, former_length, tag_place, former_tag_place}

-- ---- power

unfoldable pub is_on : List ℕ → Bool
is_on m = eqb (read m power) 1

-- ---- date

-- the date in the store; DS is 0
unfoldable pub date_of : List ℕ → Date
date_of m =
    record {
      year = read m year;
      month = read m month;
      day = read m day;
      weekday = read m weekday;
      hour = read m hour;
      minute = read m minute;
      daylight = 0;
    }

-- a date that may be stored: YY 0..99, MM 1..12, DD 1..31, WW 0..6, HH 0..23, MN 0..59; the calendar says which of these a date write accepts
unfoldable pub is_storable : Date → Bool
is_storable d =
    fits year d.year && fits month d.month && fits day d.day
    && fits weekday d.weekday && fits hour d.hour && fits minute d.minute

unfoldable pub with_date : List ℕ → Date → List ℕ
with_date m d =
    write (write (write (write (write (write m year d.year) month d.month) day d.day) weekday d.weekday) hour d.hour) minute d.minute

-- the six fields are 30 bits from bit 54 on
unfoldable pub date_stores : List ℕ → Date → List Entry
date_stores m d = bytes_around 54 30 (with_date m d)

-- ---- tags

unfoldable pub tag_of : List ℕ → List ℕ
tag_of m = take (read m tag_length) (drop tag_place m)

unfoldable pub former_tag_of : List ℕ → List ℕ
former_tag_of m = take (read m former_length) (drop former_tag_place m)

-- the old length becomes the former length
unfoldable pub with_lengths : List ℕ → ℕ → List ℕ
with_lengths m n = write (write m former_length (read m tag_length)) tag_length n

-- the old tag, all 16 bytes, becomes the former tag; then the new tag; then both lengths, in bytes 10 and 11
unfoldable pub tag_stores : List ℕ → List ℕ → List Entry
tag_stores m tag =
    range_of former_tag_place (take 16 (drop tag_place m))
    ++ (range_of tag_place (padded tag) ++ bytes_around tag_length.at (tag_length.width + former_length.width) (with_lengths m (length tag)))
