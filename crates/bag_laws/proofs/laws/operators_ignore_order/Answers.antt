use Rattle.bag_laws.proofs.RowPermutations.{union_all-same, distinct-same, difference-same}
use Rattle.bag_laws.proofs.laws.operators_ignore_order.Goals as goal

pub returns : goal.returns
returns c = record { union = union_all-same; distinct = distinct-same; difference = difference-same }
