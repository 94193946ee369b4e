-- those among the conjuncts so far
use Rattle.std.proofs.Common.{◌≡◌, ◌≤◌, length, map, take}
use Rattle.myrial_ast.specs.Scalars.{plain_of}
use Rattle.myrial_ast.specs.ScalarTrees.{scalar_tree_of}
use Rattle.myrial_types.proofs.terms.plain_of.Given as goal

abbrev pub invariant-loop-conjunct : goal.invariant-loop-conjunct
invariant-loop-conjunct l =
    (map scalar_tree_of l.found ≡ plain_of (map scalar_tree_of (take l.conjunct-index l.conjunct-items))) × (length l.found ≤ l.conjunct-index)
