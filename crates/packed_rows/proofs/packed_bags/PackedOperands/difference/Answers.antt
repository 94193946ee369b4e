use Rattle.std.proofs.Common.{arith}
use Rattle.std.proofs.lemmas.Grind.{common_steps}
use Rattle.packed_rows.proofs.packed_bags.PackedOperands.difference.Goals as goal

pub returns-in-len1 : goal.returns-in-len1
returns-in-len1 c = grind (arith, common_steps)

pub returns-in-len2 : goal.returns-in-len2
returns-in-len2 c = grind (arith, common_steps)

pub returns-in-len3 : goal.returns-in-len3
returns-in-len3 c = grind (arith, common_steps)

pub without-requires-clause-words : goal.without-requires-clause-words
without-requires-clause-words c = grind (arith, common_steps)

pub without-requires-clause-others : goal.without-requires-clause-others
without-requires-clause-others c = grind (arith, common_steps)

pub without-requires-in-len2-clause-words : goal.without-requires-in-len2-clause-words
without-requires-in-len2-clause-words c = grind (arith, common_steps)

pub without-requires-in-len2-clause-others : goal.without-requires-in-len2-clause-others
without-requires-in-len2-clause-others c = grind (arith, common_steps)

pub without-requires-in-len3-clause-words : goal.without-requires-in-len3-clause-words
without-requires-in-len3-clause-words c = grind (arith, common_steps)

pub without-requires-in-len3-clause-others : goal.without-requires-in-len3-clause-others
without-requires-in-len3-clause-others c = grind (arith, common_steps)

pub without-requires-in_default-clause-words : goal.without-requires-in_default-clause-words
without-requires-in_default-clause-words c = grind (arith, common_steps)

pub without-requires-in_default-clause-others : goal.without-requires-in_default-clause-others
without-requires-in_default-clause-others c = grind (arith, common_steps)
