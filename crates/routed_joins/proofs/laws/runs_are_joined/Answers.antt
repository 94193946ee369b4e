use Rattle.routed_joins.proofs.ReceiptLemmas.{joined-runs}
use Rattle.routed_joins.proofs.laws.runs_are_joined.Goals as goal

pub returns : goal.returns
returns c = joined-runs
