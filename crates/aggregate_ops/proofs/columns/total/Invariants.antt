use Rattle.std.proofs.Common.{◌≡◌, ◌≤ℤ◌, ◌*◌, ◌^◌, neg_ℤ, pos, take}
use Rattle.myrial_ast.specs.Groups.{total}
use Rattle.aggregate_ops.specs.Columns.{column}
use Rattle.aggregate_ops.specs.inner.Reading.{rows_of}
use Rattle.aggregate_ops.proofs.columns.total.Given as goal

abbrev pub invariant-loop-i : goal.invariant-loop-i
invariant-loop-i l =
    (l.sum ≡ total (column (take l.i (rows_of l.run)) l.place))
    × (neg_ℤ (pos (l.i * 2 ^ 63)) ≤ℤ l.sum)
    × (l.sum ≤ℤ pos (l.i * 2 ^ 63))
