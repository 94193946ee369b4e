use Rattle.std.proofs.Common.{◌+◌, drop}
use Rattle.myrial_ast.specs.Trees.{trees_of}
use Rattle.myrial_meaning.proofs.StageLemmas.{BagStage}
use Rattle.myrial_meaning.proofs.evaluating.evaluate.Given as goal

abbrev pub invariant-loop-i : goal.invariant-loop-i
invariant-loop-i l = BagStage l.files (trees_of l.script) (drop l.i (trees_of l.script)) (l.i + 1) l.names
