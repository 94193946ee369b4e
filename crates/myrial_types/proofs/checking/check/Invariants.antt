-- the script comes to what is known and what the statements that are left come to
use Rattle.std.proofs.Common.{◌+◌, drop}
use Rattle.myrial_ast.specs.Trees.{trees_of}
use Rattle.myrial_types.specs.inner.Progress.{known_of}
use Rattle.myrial_types.proofs.CheckingLemmas.{Stage}
use Rattle.myrial_types.proofs.checking.check.Given as goal

abbrev pub invariant-loop-i : goal.invariant-loop-i
invariant-loop-i l = Stage l.files (trees_of l.script) (drop l.i (trees_of l.script)) (l.i + 1) (known_of l.progress)
