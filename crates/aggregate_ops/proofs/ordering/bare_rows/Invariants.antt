use Rattle.std.proofs.Common.{◌≡◌, map, take}
use Rattle.aggregate_ops.specs.Columns.{rows_in}
use Rattle.aggregate_ops.proofs.ordering.bare_rows.Given as goal

abbrev pub invariant-loop-row : goal.invariant-loop-row
invariant-loop-row l = rows_in l.rows.items ≡ map (λ e. e.2.now) (take l.row-index l.led)
