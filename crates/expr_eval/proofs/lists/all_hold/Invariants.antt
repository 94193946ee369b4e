use Rattle.std.proofs.Common.{◌≡◌, map, take, true}
use Rattle.myrial_ast.specs.Combinations.{all_hold}
use Rattle.myrial_ast.specs.CandidateFaults.{all_fit}
use Rattle.myrial_ast.specs.ScalarTrees.{scalar_tree_of}
use Rattle.expr_eval.proofs.lists.all_hold.Given as goal

abbrev pub invariant-loop-scalar : goal.invariant-loop-scalar
invariant-loop-scalar g l =
    (l.all ≡ all_hold (map scalar_tree_of (take l.scalar-index l.scalars)) (g.R.RowView.values l.row))
    × (all_fit (map scalar_tree_of (take l.scalar-index l.scalars)) (g.R.RowView.values l.row) ≡ true)
