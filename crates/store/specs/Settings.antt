-- The settings (docs/RULES.md, the table under 'What a good packet does', AC2 to AC4): one list of rows, from which the setting of a page
-- and a code is found, and with it what is accepted, kept and shown.
use Rattle.std.specs.Prelude.{Bool, cond, ◌&&◌, ◌||◌, ℕ, eqb}
use mathlib.Core.List.{List, [], ◌∷◌, Memᴰ}
use Rattle.std.proofs.Math.Option.{Option, none, some}
use Rattle.store.specs.Fields.{Field, field, read, fits_in}
use Rattle.store.specs.declared.settings.Values.{Values}
use Rattle.store.specs.declared.settings.Row.{Row}

-- ---- the table

abbrev pub range : ℕ → ℕ → Values
range least most = Values.Range least most

abbrev inputs : Values
inputs = Values.Inputs

-- page, code, accepted values, max field, unused value; first bit and width of the field
abbrev pub row : ℕ → ℕ → Values → ℕ → ℕ → ℕ → ℕ → Row
row page code values largest unused at width =
    record { page = page; code = code; values = values; largest = largest; unused = unused; at = at; width = width }

abbrev pub backlight : Row
backlight = row 0x00 0x10 (range 0 100) 100 70 8 7

abbrev pub input : Row
input = row 0x00 0x60 inputs 17 1 15 2

abbrev pub balance : Row
balance = row 0x00 0x93 (range 0 60) 60 30 17 6

abbrev pub pip_h : Row
pip_h = row 0x02 0x74 (range 0 100) 100 50 23 7

abbrev pub pip_v : Row
pip_v = row 0x02 0x75 (range 0 100) 100 50 30 7

abbrev pub ambient_low : Row
ambient_low = row 0x10 0x33 (range 0 100) 100 20 37 7

abbrev pub ambient_high : Row
ambient_high = row 0x10 0x34 (range 0 100) 100 80 44 7

abbrev pub tile : Row
tile = row 0x10 0x4A (range 1 2) 2 1 51 2

abbrev pub settings : List Row
settings = backlight ∷ input ∷ balance ∷ pip_h ∷ pip_v ∷ ambient_low ∷ ambient_high ∷ tile ∷ []

abbrev pub Listed : Row → Type 0
Listed r = Memᴰ r settings

-- ---- the setting of a page and a code, if one is listed

abbrev pub is_at : ℕ → ℕ → Row → Bool
is_at page code r = eqb page r.page && eqb code r.code

abbrev pub row_in : ℕ → ℕ → List Row → Option Row
row_in page code [] = none
row_in page code (r ∷ rs) = cond (is_at page code r) (some r) (row_in page code rs)

unfoldable pub setting_at : ℕ → ℕ → Option Row
setting_at page code = row_in page code settings

-- ---- values

-- inputs 1, 3 and 17 are kept as 0, 1 and 2; 4 is accepted and kept as 17
abbrev pub input_accepts : ℕ → Bool
input_accepts v = eqb v 1 || (eqb v 3 || (eqb v 4 || eqb v 17))

abbrev pub input_kept : ℕ → ℕ
input_kept v = cond (eqb v 1) 0 (cond (eqb v 3) 1 2)

abbrev pub input_shown : ℕ → ℕ
input_shown k = cond (eqb k 0) 1 (cond (eqb k 1) 3 17)

-- the values that a Set accepts
abbrev pub accepts : Values → ℕ → Bool
accepts (Values.Range least most) v = fits_in least most v
accepts Values.Inputs v = input_accepts v

-- what is kept of an accepted value
abbrev pub kept : Values → ℕ → ℕ
kept (Values.Range least most) v = v
kept Values.Inputs v = input_kept v

-- what is shown of what is kept
abbrev pub shown : Values → ℕ → ℕ
shown (Values.Range least most) k = k
shown Values.Inputs k = input_shown k

-- the least and the most that is kept
abbrev pub least_kept : Values → ℕ
least_kept (Values.Range least most) = least
least_kept Values.Inputs = 0

abbrev pub most_kept : Values → ℕ
most_kept (Values.Range least most) = most
most_kept Values.Inputs = 2

-- ---- a setting in the store

abbrev pub field_of : Row → Field
field_of r = field r.at r.width (least_kept r.values) (most_kept r.values) (kept r.values r.unused)

-- the current value
unfoldable pub current : List ℕ → Row → ℕ
current m r = shown r.values (read m (field_of r))
