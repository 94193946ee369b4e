use Rattle.myrial_meaning.proofs.MeaningPermutations.{stored-same}
use Rattle.myrial_laws.proofs.laws.order_of_rows_changes_no_bag.Goals as goal

pub returns : goal.returns
returns c = stored-same
