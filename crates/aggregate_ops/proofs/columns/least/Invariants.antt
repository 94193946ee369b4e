use Rattle.std.proofs.Common.{◌≡◌, fold, take}
use Rattle.myrial_ast.specs.Scalars.{value_at}
use Rattle.myrial_ast.specs.Groups.{lesser}
use Rattle.aggregate_ops.specs.Columns.{column}
use Rattle.aggregate_ops.specs.inner.Reading.{row_of, rows_of}
use Rattle.aggregate_ops.proofs.columns.least.Given as goal

abbrev pub invariant-loop-i : goal.invariant-loop-i
invariant-loop-i l = value_at (row_of l.best) l.place ≡ fold lesser (value_at (row_of l.first) l.place) (column (take l.i (rows_of l.rest)) l.place)
