use Rattle.std.proofs.Common.{arith}
use Rattle.std.proofs.lemmas.Grind.{common_steps}
use Rattle.word_table.proofs.dictionary.word_of_int.Goals as goal

pub returns : goal.returns
returns c = grind (arith, common_steps)
