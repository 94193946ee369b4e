use Rattle.std.proofs.Common.{◌≡◌, ◌≤◌, length, map, take}
use Rattle.myrial_ast.specs.Scalars.{plain_of}
use Rattle.myrial_ast.specs.ScalarTrees.{scalar_tree_of}
use Rattle.myrial_meaning.proofs.rules.plain_of.Given as goal

abbrev pub invariant-loop-scalar : goal.invariant-loop-scalar
invariant-loop-scalar l =
    (map scalar_tree_of l.made ≡ plain_of (map scalar_tree_of (take l.scalar-index l.scalars))) × (length l.made ≤ l.scalar-index)
