use Rattle.bag_laws.proofs.GroupPermutations.{groups-same}
use Rattle.bag_laws.proofs.laws.groups_ignore_order.Goals as goal

pub returns : goal.returns
returns c = groups-same
