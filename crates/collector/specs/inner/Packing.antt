-- Rows of ints that are packed into one number each, in front of their places.
--
--   all_digits fields                  how many binary digits the fields have
--   distance field value               how far an int is from the field's least one
--   HasRoom field value                a value is an int, and the field has room for it
--   IsPacked fields row number         the ints of a row stand side by side in a number
--   row_told part digits number        the row of a part at the place that a number's last digits tell
--   TellsRow part fields digits number a number is such a row, packed, in front of its place
--   TellRows part fields digits numbers  numbers are the rows of a part, each with its place
use Rattle.std.specs.Prelude.{◌≡◌, ℕ, ◌+◌, ◌/◌, ◌%◌, ◌^◌, ◌<◌, ◌-ℤ◌, ◌≤ℤ◌, List, [], ◌∷◌, All, map, length, slice_index_or, unsigned_abs}
use Rattle.rel_base.specs.declared.values.Value.{Value}
use Rattle.rel_base.specs.declared.values.Value.TheVariants as variant
use Rattle.rel_base.specs.Values.{number_of}
use Rattle.collector.specs.declared.fields.Field.{Field}

-- the digits of all fields
abbrev pub all_digits : List Field → ℕ
all_digits [] = 0
all_digits (f ∷ fields) = f.digits + all_digits fields

-- how far an int is from the field's least one
abbrev pub distance : Field → Value → ℕ
distance f v = unsigned_abs (number_of v -ℤ f.least)

-- an int that is at least the field's least one, and no further from it than the field has digits for
pub record HasRoom (f : Field) (v : Value) : Type 0 where
  pub is_int : v ≡ variant.Int (number_of v)
  pub above : f.least ≤ℤ number_of v
  pub below : distance f v < 2 ^ f.digits

-- the first int's distance stands in front of the digits of the other fields
abbrev pub IsPacked : List Field → List Value → ℕ → Type 0
IsPacked [] [] number = number ≡ 0
IsPacked [] (v ∷ row) number = ⊥
IsPacked (f ∷ fields) [] number = ⊥
IsPacked (f ∷ fields) (v ∷ row) number =
    HasRoom f v × (number / 2 ^ all_digits fields ≡ distance f v)
    × IsPacked fields row (number % 2 ^ all_digits fields)

module _ (part : List (List Value)) where
  -- the row at the place that a number's last digits tell
  abbrev pub row_told : ℕ → ℕ → List Value
  row_told digits number = slice_index_or part (number % 2 ^ digits) []

  module _ (fields : List Field) (digits : ℕ) where
    -- a row of the part stands packed in front of its place
    pub record TellsRow (number : ℕ) : Type 0 where
      pub within : number % 2 ^ digits < length part
      pub packed : IsPacked fields (row_told digits number) (number / 2 ^ digits)

    -- numbers for the rows of the part, in order
    pub record TellRows (numbers : List ℕ) : Type 0 where
      pub rows : map (row_told digits) numbers ≡ part
      pub each : All TellsRow numbers
