use Rattle.std.proofs.Common.{rules, arith}
use Rattle.std.proofs.lemmas.Grind.{common_steps}
use Rattle.myrial_parser.specs.Terminals.{reserved}
use Rattle.myrial_parser.proofs.terminals.reserved.Goals as goal

pub returns : goal.returns
unfolding reserved
returns c = first_of (search rules, grind (arith, common_steps))
