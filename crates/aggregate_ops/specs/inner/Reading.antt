-- Rows as they are read.
--
--   row_of row                    the row that is lent, or packed
--   rows_of rows                  the rows that are lent, or packed
--   value_of value                the value that is lent, or was made
use Rattle.std.specs.Prelude.{map}
use Rattle.rel_base.specs.declared.values.Value.{Value}
use Rattle.myrial_ast.specs.Combinations.{Row, Rows}
use Rattle.packed_rows.specs.Unpacked.{unpacked_row}
use Rattle.aggregate_ops.specs.declared.rows_of_groups.GroupedRow.{GroupedRow}
use Rattle.aggregate_ops.specs.declared.rows_of_groups.GroupedRow.TheVariants as row
use Rattle.aggregate_ops.specs.declared.rows_of_groups.GroupedRows.{GroupedRows}
use Rattle.aggregate_ops.specs.declared.rows_of_groups.GroupedRows.TheVariants as rows
use Rattle.aggregate_ops.specs.declared.rows_of_groups.ReadValue.{ReadValue}
use Rattle.aggregate_ops.specs.declared.rows_of_groups.ReadValue.TheVariants as read
use Rattle.aggregate_ops.specs.Columns.{rows_in}

-- the row that is lent, or packed
abbrev pub row_of : GroupedRow → Row
row_of (row.Lent r) = r.now
row_of (row.Packed word columns) = unpacked_row columns.now word

-- the rows that are lent, or packed
abbrev pub rows_of : GroupedRows → Rows
rows_of (rows.Lent rs) = rows_in rs.now
rows_of (rows.Packed words columns) = map (unpacked_row columns.now) words.now

-- the value that is lent, or was made
abbrev pub value_of : ReadValue → Value
value_of (read.Lent v) = v.now
value_of (read.Made v) = v
