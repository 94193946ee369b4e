use Rattle.run_laws.proofs.PartLemmas.{kept_rows_are_parts}
use Rattle.run_laws.proofs.kept.kept_rows_are_parts.Goals as goal

pub returns : goal.returns
returns c = kept_rows_are_parts
