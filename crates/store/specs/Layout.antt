-- The store (docs/RULES.md, 'Store', ST1 and ST2): 128 bytes. Byte 0 is the mark; bytes 1 to 11 hold 17 fields, packed without gaps, most
-- significant bit first, and two spare bits; then the tag and the former tag. What lies behind them is not said here.
use Rattle.std.specs.Prelude.{Bool, List, [], ◌∷◌, ◌++◌, map, ℕ}
use Rattle.store.specs.Fields.{Field, field, all_fit}
use Rattle.store.specs.Settings.{settings, field_of}

-- ---- the fields, in the order of the store

abbrev pub setting_fields : List Field
setting_fields = map field_of settings

-- first bit, width, least, most and unused value of each; for power on is 1
abbrev pub power : Field
power = field 53 1 0 1 1

abbrev pub year : Field
year = field 54 7 0 99 0

abbrev pub month : Field
month = field 61 4 1 12 1

abbrev pub day : Field
day = field 65 5 1 31 1

-- Sunday is 0
abbrev pub weekday : Field
weekday = field 70 3 0 6 6

abbrev pub hour : Field
hour = field 73 5 0 23 0

abbrev pub minute : Field
minute = field 78 6 0 59 0

abbrev pub date_fields : List Field
date_fields = year ∷ month ∷ day ∷ weekday ∷ hour ∷ minute ∷ []

abbrev pub tag_length : Field
tag_length = field 84 5 0 16 0

abbrev pub former_length : Field
former_length = field 89 5 0 16 0

abbrev pub length_fields : List Field
length_fields = tag_length ∷ former_length ∷ []

abbrev pub fields : List Field
fields = setting_fields ++ (power ∷ (date_fields ++ length_fields))

-- every field holds a value that it may hold
unfoldable pub fields_in_range : List ℕ → Bool
fields_in_range m = all_fit m fields

-- ---- behind the fields

-- two bits
abbrev pub spare_bit : ℕ
spare_bit = 94

-- the tag and the former tag, 16 bytes each
abbrev pub tag_place : ℕ
tag_place = 12

abbrev pub former_tag_place : ℕ
former_tag_place = 28

-- the first byte behind the tags
abbrev pub rest_place : ℕ
rest_place = 44
