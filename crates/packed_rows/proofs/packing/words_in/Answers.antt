use Rattle.packed_rows.proofs.EmitLemmas.{whole-rows}
use Rattle.packed_rows.proofs.packing.words_in.Goals as goal

pub returns-in-Whole-clause-words : goal.returns-in-Whole-clause-words
returns-in-Whole-clause-words c = rw (c.in-Whole.is, whole-rows c.args.rows.now) c.words_of_rows.ensures.words
