use Rattle.std.proofs.Common.{length}
use Rattle.aggregate_ops.proofs.group_rows.+put_partials.Given as goal

abbrev pub decreases-put_partials : goal.decreases-put_partials
decreases-put_partials l = length l.kinds.now
