use Rattle.std.proofs.Common.{arith}
use Rattle.std.proofs.lemmas.Grind.{common_steps}
use Rattle.packed_rows.proofs.packing.words_by_width.Goals as goal

pub returns-in-len1-clause-words : goal.returns-in-len1-clause-words
returns-in-len1-clause-words c = grind (arith, common_steps)

pub returns-in-len2-clause-words : goal.returns-in-len2-clause-words
returns-in-len2-clause-words c = grind (arith, common_steps)

pub returns-in-len3-clause-words : goal.returns-in-len3-clause-words
returns-in-len3-clause-words c = grind (arith, common_steps)

pub returns-in-len4-clause-words : goal.returns-in-len4-clause-words
returns-in-len4-clause-words c = grind (arith, common_steps)

pub returns-in-len5-clause-words : goal.returns-in-len5-clause-words
returns-in-len5-clause-words c = grind (arith, common_steps)

pub returns-in_default-clause-words : goal.returns-in_default-clause-words
returns-in_default-clause-words c = grind (arith, common_steps)
