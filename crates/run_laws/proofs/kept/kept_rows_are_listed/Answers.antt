use Rattle.run_laws.proofs.KeptLemmas.{kept_rows_are_listed}
use Rattle.run_laws.proofs.kept.kept_rows_are_listed.Goals as goal

pub returns : goal.returns
returns c = kept_rows_are_listed
