use Rattle.std.proofs.Common.{arith}
use Rattle.std.proofs.lemmas.Grind.{common_steps}
use Rattle.output_texts.proofs.pieces.Pieces.add_stored.Goals as goal

pub loop-store-preserved : goal.loop-store-preserved
loop-store-preserved g c = grind (arith, common_steps)
