use Rattle.myrial_parser.proofs.LevelLemmas.{expression-unique}
use Rattle.myrial_parser.proofs.laws.an_expression_has_one_tree.Goals as goal

pub returns : goal.returns
returns c = expression-unique
