use Rattle.aggregate_ops.proofs.FitLemmas.{merged_fit_as_groups}
use Rattle.aggregate_ops.proofs.laws.merged_fit_as_groups.Goals as goal

pub returns : goal.returns
returns c = merged_fit_as_groups
