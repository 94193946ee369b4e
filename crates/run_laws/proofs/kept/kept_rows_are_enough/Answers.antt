use Rattle.run_laws.proofs.KeptLemmas.{kept_rows_are_enough}
use Rattle.run_laws.proofs.kept.kept_rows_are_enough.Goals as goal

pub returns : goal.returns
returns c = kept_rows_are_enough
