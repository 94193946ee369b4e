use Rattle.run_laws.proofs.NoteLemmas.{notes_are_of_bags}
use Rattle.run_laws.proofs.scripts.notes_are_of_bags.Goals as goal

pub returns : goal.returns
returns c = notes_are_of_bags
