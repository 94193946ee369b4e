-- Parts that are equal.
--
--   parts_in parts                     the rows of parts that are lent
--   IsAPart parts widths rows width    one of the parts has these rows and this number of columns
--   AreUnlike parts widths own own_widths places   the parts that are like none before them, and
--                                      which of these each part is
--   ArePicked tables places made       the tables at these places
use Rattle.std.specs.Prelude.{◌≡◌, ℕ, ◌<◌, List, [], length, map, slice_index, slice_index_or}
use Rattle.std.specs.Borrow.{Bor}
use Rattle.rel_base.specs.declared.values.Value.{Value}
use Rattle.rel_base.specs.declared.rows.Rows.{Rows}
use Rattle.word_table.specs.WordTables.{WordTable}

-- the rows of parts that are lent
abbrev pub parts_in : List (Bor Rows) → List (List (List Value))
parts_in parts = map (λ (rows : Bor Rows). rows.now) parts

-- one of the parts has these rows and this number of columns
abbrev pub IsAPart : List (List (List Value)) → List ℕ → List (List Value) → ℕ → Type 0
IsAPart parts widths rows width =
    (j : ℕ) × (j < length parts) × (slice_index_or parts j [] ≡ rows)
    × (slice_index widths j ≡ width)

-- each part has the rows and the number of columns of the own one at its place, and each own one is
-- one of the parts
pub record AreUnlike
    (parts : List (List (List Value))) (widths : List ℕ)
    (own : List (List (List Value))) (own_widths : List ℕ)
    (places : List ℕ) : Type 0 where
  pub even : length widths ≡ length parts
  pub many : length places ≡ length parts
  pub wide : length own_widths ≡ length own
  pub within : (j : ℕ) → j < length parts → slice_index places j < length own
  pub rows : (j : ℕ) → j < length parts
      → slice_index_or own (slice_index places j) [] ≡ slice_index_or parts j []
  pub columns : (j : ℕ) → j < length parts
      → slice_index own_widths (slice_index places j) ≡ slice_index widths j
  pub from : (i : ℕ) → i < length own
      → IsAPart parts widths (slice_index_or own i []) (slice_index own_widths i)

-- in turn the tables at these places
pub record ArePicked
    (tables : List WordTable) (places : List ℕ) (made : List WordTable) : Type 0 where
  pub many : length made ≡ length places
  pub each : (j : ℕ) (d : WordTable) → j < length places
      → slice_index_or made j d ≡ slice_index_or tables (slice_index places j) d
