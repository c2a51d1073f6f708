-- What inner functions ask and give. No contract of an entry point cites it.
use Rattle.std.specs.Prelude.{Bool, List, ℕ, ◌+◌, ◌%◌, ◌≤◌, ◌<◌}
use Rattle.messages.specs.declared.message.Date.{Date}
use Rattle.store.specs.Fields.{read, fits}
use Rattle.store.specs.Settings.{field_of}
use Rattle.store.specs.declared.settings.Row.{Row}

-- some bits of the store, within two of its bytes
pub record InStore (at width : ℕ) : Type 0 where
  pub some : 0 < width
  pub two : at % 8 + width ≤ 16
  pub within : at + width ≤ 1024

-- the field of a setting holds a value that it may hold
unfoldable pub row_fits : List ℕ → Row → Bool
row_fits m r = fits (field_of r) (read m (field_of r))

-- a date whose numbers fit the widths of their fields
pub record DateFits (d : Date) : Type 0 where
  pub year : d.year < 128
  pub month : d.month < 16
  pub day : d.day < 32
  pub weekday : d.weekday < 8
  pub hour : d.hour < 32
  pub minute : d.minute < 64
