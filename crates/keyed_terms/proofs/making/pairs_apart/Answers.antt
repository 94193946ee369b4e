use Rattle.std.proofs.Common.{arith}
use Rattle.std.proofs.lemmas.Grind.{common_steps}
use Rattle.keyed_terms.proofs.making.pairs_apart.Goals as goal

pub loop-rows-smaller : goal.loop-rows-smaller
loop-rows-smaller c = grind (arith, common_steps)

pub loop-rows-preserved : goal.loop-rows-preserved
loop-rows-preserved c = grind (arith, common_steps)

pub returns-clause-parts : goal.returns-clause-parts
returns-clause-parts c = grind (arith, common_steps)

pub returns-clause-others : goal.returns-clause-others
returns-clause-others c = grind (arith, common_steps)
