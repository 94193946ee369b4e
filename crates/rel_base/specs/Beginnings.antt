-- What rows begin with, in numbers that mostly tell how two rows compare.
--
--   leading_rank row           the rank of the type of the first value, from 1; of a row without values 0
--   leading_number row         the number of the first value, or its key
--   leading_bytes row          the bytes of the first value
--   BeginsWith row rank number the row begins so
use Rattle.std.specs.Prelude.{◌≡◌, ◌<◌, ℕ, ℤ, pos, List, [], ◌∷◌, All}
use Rattle.rel_base.specs.declared.values.Value.{Value}
use Rattle.rel_base.specs.declared.values.Value.TheVariants as variant
use Rattle.rel_base.specs.Values.{bytes_of}
use Rattle.rel_base.specs.SortKeys.{sort_key}

-- the rank of the type of the first value; a row without values comes before all others
abbrev pub leading_rank : List Value → ℕ
leading_rank [] = 0
leading_rank (variant.Int n ∷ row) = 1
leading_rank (variant.Str s ∷ row) = 2
leading_rank (variant.Bool b ∷ row) = 3

-- the number of an int, and the key of a string; of another value, or of none, 0
abbrev pub leading_number : List Value → ℤ
leading_number [] = pos 0
leading_number (variant.Int n ∷ row) = n
leading_number (variant.Str s ∷ row) = pos (sort_key s)
leading_number (variant.Bool b ∷ row) = pos 0

-- the bytes of the first value, where it is a string; else none
abbrev pub leading_bytes : List Value → List ℕ
leading_bytes [] = []
leading_bytes (v ∷ row) = bytes_of v

-- the row begins with a value of this rank and this number
pub record BeginsWith (row : List Value) (rank : ℕ) (number : ℤ) : Type 0 where
  pub is_rank : rank ≡ leading_rank row
  pub is_number : number ≡ leading_number row
  pub is_text : All (λ byte. byte < 256) (leading_bytes row)
