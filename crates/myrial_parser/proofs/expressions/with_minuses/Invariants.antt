-- as many nodes as there were turns
use Rattle.std.proofs.Common.{◌≡◌}
use Rattle.myrial_ast.specs.Trees.{tree_of, Neg}
use Rattle.myrial_parser.specs.inner.Descent.{wrapped}
use Rattle.myrial_parser.proofs.expressions.with_minuses.Given as goal

abbrev pub invariant-loop-turn : goal.invariant-loop-turn
invariant-loop-turn l = tree_of l.found ≡ wrapped Neg l._turn (tree_of l.initial.found)
