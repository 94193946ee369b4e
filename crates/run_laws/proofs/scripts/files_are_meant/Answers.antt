use Rattle.run_laws.proofs.ScriptLemmas.{files_are_meant}
use Rattle.run_laws.proofs.scripts.files_are_meant.Goals as goal

pub returns : goal.returns
returns c = files_are_meant
