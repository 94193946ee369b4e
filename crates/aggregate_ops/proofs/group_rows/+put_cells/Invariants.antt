use Rattle.std.proofs.Common.{length}
use Rattle.aggregate_ops.proofs.group_rows.+put_cells.Given as goal

abbrev pub decreases-put_cells : goal.decreases-put_cells
decreases-put_cells l = length l.kinds.now
