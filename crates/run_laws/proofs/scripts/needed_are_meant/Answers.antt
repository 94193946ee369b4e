use Rattle.run_laws.proofs.ScriptLemmas.{needed_are_meant}
use Rattle.run_laws.proofs.scripts.needed_are_meant.Goals as goal

pub returns : goal.returns
returns c = needed_are_meant
