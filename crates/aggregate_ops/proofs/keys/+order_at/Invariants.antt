use Rattle.std.proofs.Common.{length}
use Rattle.aggregate_ops.proofs.keys.+order_at.Given as goal

abbrev pub decreases-order_at : goal.decreases-order_at
decreases-order_at l = length l.places.now
