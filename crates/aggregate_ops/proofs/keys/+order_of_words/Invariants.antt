use Rattle.std.proofs.Common.{length}
use Rattle.aggregate_ops.proofs.keys.+order_of_words.Given as goal

abbrev pub decreases-order_of_words : goal.decreases-order_of_words
decreases-order_of_words l = length l.places.now
