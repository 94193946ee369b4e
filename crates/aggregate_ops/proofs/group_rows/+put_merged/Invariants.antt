use Rattle.std.proofs.Common.{length}
use Rattle.aggregate_ops.proofs.group_rows.+put_merged.Given as goal

abbrev pub decreases-put_merged : goal.decreases-put_merged
decreases-put_merged l = length l.kinds.now
