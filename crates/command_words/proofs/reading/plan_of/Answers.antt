use Rattle.std.proofs.Common.{arith}
use Rattle.std.proofs.lemmas.Grind.{common_steps}
use Rattle.command_words.proofs.reading.plan_of.Goals as goal

pub returns-in-None-clause-usage : goal.returns-in-None-clause-usage
returns-in-None-clause-usage c = grind (arith, common_steps)

pub returns-in-None-2-clause-allowed : goal.returns-in-None-2-clause-allowed
returns-in-None-2-clause-allowed c = grind (arith, common_steps)
