-- the values so far stand behind the list, and none of them overflowed
use Rattle.std.proofs.Common.{◌≡◌, ◌++◌, map, take, true}
use Rattle.myrial_ast.specs.Combinations.{emitted}
use Rattle.myrial_ast.specs.CandidateFaults.{all_fit}
use Rattle.myrial_ast.specs.ScalarTrees.{scalar_tree_of}
use Rattle.expr_eval.proofs.lists.EmissionRowSource.put_values.Given as goal

abbrev pub invariant-loop-scalar : goal.invariant-loop-scalar
invariant-loop-scalar g l =
    (l.into.items ≡ l.fn.into.items ++ emitted (map scalar_tree_of (take l.scalar-index l.scalar-items)) (g.R.RowView.values l.self.row.now))
    × (all_fit (map scalar_tree_of (take l.scalar-index l.scalar-items)) (g.R.RowView.values l.self.row.now) ≡ true)
