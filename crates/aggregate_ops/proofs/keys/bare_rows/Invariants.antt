use Rattle.std.proofs.Common.{◌≡◌, map, take}
use Rattle.aggregate_ops.specs.Columns.{rows_in}
use Rattle.aggregate_ops.proofs.keys.bare_rows.Given as goal

abbrev pub invariant-loop-item : goal.invariant-loop-item
invariant-loop-item l = rows_in l.rows.items ≡ map (λ e. e.row.now) (take l.item-index l.keyed)
