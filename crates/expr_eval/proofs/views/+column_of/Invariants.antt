use Rattle.std.proofs.Common.{length}
use Rattle.expr_eval.proofs.views.+column_of.Given as goal

abbrev pub decreases-column_of : goal.decreases-column_of
decreases-column_of l = length l.rows.now
