use Rattle.bag_laws.proofs.RowPermutations.{candidates-same, listed_from-same}
use Rattle.bag_laws.proofs.laws.joins_ignore_order.Goals as goal

pub returns : goal.returns
returns c = record { candidates = candidates-same; listed = listed_from-same }
