use Rattle.word_table.proofs.GatherLemmas.{AreGatheredColumns-none}
use Rattle.word_table.proofs.occurrences.no_values.Goals as goal

pub returns-clause-none : goal.returns-clause-none
returns-clause-none c found = AreGatheredColumns-none c.loop.columns.items c.loop.invariant.empty found
