-- A field of the store (docs/RULES.md, 'Store', ST1): a number in some bits, anywhere in the 128 bytes, and what a change of it stores.
use Rattle.std.specs.Prelude.{Bool, true, ◌&&◌, List, [], ◌∷◌, ℕ, ◌+◌, ◌/◌, leb}
use Rattle.bitfield.specs.Field.{get_field, put_field}
use Rattle.plan.specs.Stores.{Entry, copied}

-- its first bit, its width, the least and the most that it may hold, and what it holds on an unused board
pub record Field : Type 0 where
  pub at : ℕ
  pub width : ℕ
  pub least : ℕ
  pub most : ℕ
  pub unused : ℕ

abbrev pub field : ℕ → ℕ → ℕ → ℕ → ℕ → Field
field at width least most unused = record { at = at; width = width; least = least; most = most; unused = unused }

-- what a field holds, and the store with another value in it
abbrev pub read : List ℕ → Field → ℕ
read m f = get_field m f.at f.width

abbrev pub write : List ℕ → Field → ℕ → List ℕ
write m f v = put_field m f.at f.width v

-- a value that a field may hold
abbrev pub fits_in : ℕ → ℕ → ℕ → Bool
fits_in least most v = leb least v && leb v most

abbrev pub fits : Field → ℕ → Bool
fits f v = fits_in f.least f.most v

-- each of some fields holds a value that it may hold
abbrev pub all_fit : List ℕ → List Field → Bool
all_fit m [] = true
all_fit m (f ∷ fs) = fits f (read m f) && all_fit m fs

-- ---- what a change of fields stores

-- the bytes of a changed store that hold a bit of the bits from at on, as many as width says
abbrev pub bytes_around : ℕ → ℕ → List ℕ → List Entry
bytes_around at width m = copied (at / 8) ((at + width + 7) / 8) m

-- one field: one byte, or two
unfoldable pub field_stores : List ℕ → Field → ℕ → List Entry
field_stores m f v = bytes_around f.at f.width (write m f v)
