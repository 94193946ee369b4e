use Rattle.myrial_types.proofs.DefinedLemmas.{typed_scripts_have_meaning}
use Rattle.myrial_types.proofs.laws.typed_scripts_have_meaning.Goals as goal

pub returns : goal.returns
returns c = typed_scripts_have_meaning
