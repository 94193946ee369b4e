-- the equalities among the conjuncts so far
use Rattle.std.proofs.Common.{◌≡◌, map, take}
use Rattle.myrial_ast.specs.Classes.{equalities}
use Rattle.myrial_ast.specs.ScalarTrees.{scalar_tree_of}
use Rattle.myrial_types.proofs.terms.equalities_of.Given as goal

abbrev pub invariant-loop-conjunct : goal.invariant-loop-conjunct
invariant-loop-conjunct l = l.found.items ≡ equalities (map scalar_tree_of (take l.conjunct-index l.conjunct-items))
