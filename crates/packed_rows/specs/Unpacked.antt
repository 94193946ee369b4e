-- Rows that are packed in words.
--
--   value_told column word        the value that a word tells in a column
--   unpacked_row columns word     the row that is packed in a word
use Rattle.std.specs.Prelude.{ℕ, List, map}
use Rattle.rel_base.specs.declared.values.Value.{Value}
use Rattle.myrial_ast.specs.Combinations.{Row}
use Rattle.packed_rows.specs.declared.columns.PackedColumn.{PackedColumn}
use Rattle.packed_rows.specs.Words.{unpacked}

-- the value that a word tells in a column
abbrev pub value_told : PackedColumn → ℕ → Value
value_told c word = unpacked c.shift c.mask c.least c.is_truth word

-- the row that is packed in a word
abbrev pub unpacked_row : List PackedColumn → ℕ → Row
unpacked_row columns word = map (λ c. value_told c word) columns
