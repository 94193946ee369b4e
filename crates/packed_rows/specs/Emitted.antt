-- What rows emit to be packed.
--
--   emitted_by emits row      all values of the row, or those of the picks
--   all_emitted emits rows    the same of each row
use Rattle.std.specs.Prelude.{map}
use Rattle.myrial_ast.specs.Combinations.{Row, Rows, emitted}
use Rattle.myrial_ast.specs.ScalarTrees.{scalar_tree_of}
use Rattle.packed_rows.specs.declared.emits.Emits.{Emits}
use Rattle.packed_rows.specs.declared.emits.Emits.TheVariants as emits

-- all values of the row, or those of the picks
abbrev pub emitted_by : Emits → Row → Row
emitted_by emits.Whole row = row
emitted_by (emits.Picked picks) row = emitted (map scalar_tree_of picks.now) row

-- the same of each row
abbrev pub all_emitted : Emits → Rows → Rows
all_emitted emits rows = map (emitted_by emits) rows
