use Rattle.std.proofs.Common.{arith}
use Rattle.std.proofs.lemmas.Grind.{common_steps}
use Rattle.packed_rows.proofs.distinct_rows.rows_of.Goals as goal

pub loop-word-preserved : goal.loop-word-preserved
loop-word-preserved c = grind (arith, common_steps)

pub returns : goal.returns
returns c = grind (arith, common_steps)

pub push_made-requires : goal.push_made-requires
push_made-requires c = grind (arith, common_steps)

pub loop-word-init : goal.loop-word-init
loop-word-init c = grind (arith, common_steps)
