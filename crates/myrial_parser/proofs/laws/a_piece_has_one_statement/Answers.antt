use Rattle.myrial_parser.proofs.StatementLemmas.{statement-unique}
use Rattle.myrial_parser.proofs.laws.a_piece_has_one_statement.Goals as goal

pub returns : goal.returns
returns c = statement-unique
