use Rattle.std.proofs.Common.{◌==◌, not, length, sym, ap}
use Rattle.myrial_ast.specs.ScalarTrees.{scalar_tree_of}
use Rattle.myrial_ast.specs.Scalars.{columns_of}
use Rattle.myrial_ast.proofs.scalars.Scalar.+reads_a_column.Goals as goal

pub returns-in-Lit : goal.returns-in-Lit
returns-in-Lit t c =
    sym (ap (λ scalar. not (length (columns_of (scalar_tree_of scalar)) == 0)) c.in-Lit.is)
