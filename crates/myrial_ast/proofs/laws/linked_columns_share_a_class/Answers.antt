use Rattle.myrial_ast.proofs.ClassLemmas.{linked_where_same_class}
use Rattle.myrial_ast.proofs.laws.linked_columns_share_a_class.Goals as goal

pub returns : goal.returns
returns c pairs a b = linked_where_same_class pairs a b
