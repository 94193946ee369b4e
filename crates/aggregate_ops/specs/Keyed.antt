-- The order of rows by their values at places.
--
--   key_in r             the values of a row at the places beside it
--   keyed_order r s      how two such rows compare
use Rattle.std.specs.declared.cmp.Ordering.{Ordering}
use Rattle.std.specs.Ordering.{on}
use Rattle.std.specs.Cmp.{IsTotalOrder, on_total}
use Rattle.rel_base.specs.Values.{row_order}
use Rattle.rel_base.specs.ValueLaws.{row_order_total}
use Rattle.myrial_ast.specs.Combinations.{Row}
use Rattle.aggregate_ops.specs.Columns.{key_at}
use Rattle.aggregate_ops.specs.declared.keys.KeyedRow.{KeyedRow}

-- the values of a row at the places beside it
abbrev pub key_in : KeyedRow → Row
key_in r = key_at r.places.now r.row.now

-- how two such rows compare
abbrev pub keyed_order : KeyedRow → KeyedRow → Ordering
keyed_order = on key_in row_order

pub keyed_order_total : IsTotalOrder keyed_order
keyed_order_total = on_total key_in row_order_total
