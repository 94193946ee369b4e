use Rattle.std.proofs.Common.{◌≡◌, map, take}
use Rattle.myrial_ast.specs.ScalarTrees.{scalar_tree_of}
use Rattle.myrial_meaning.specs.inner.Rules.{scalar_in}
use Rattle.myrial_meaning.proofs.rules.emits_of.Given as goal

abbrev pub invariant-loop-column : goal.invariant-loop-column
invariant-loop-column l = map scalar_tree_of l.made ≡ map scalar_in (take l.column-index l.columns)
