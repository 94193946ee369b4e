use Rattle.std.proofs.Common.{◌≡◌, drop}
use Rattle.myrial_ast.specs.Trees.{trees_of}
use Rattle.myrial_meaning.specs.Environments.{nothing_yet}
use Rattle.myrial_meaning.specs.inner.Columns.{all_declared}
use Rattle.myrial_meaning.proofs.checking.has_meaning.Given as goal

abbrev pub invariant-loop-statement : goal.invariant-loop-statement
invariant-loop-statement l =
    all_declared l.files nothing_yet (trees_of l.script) ≡ all_declared l.files l.names (drop l.statement-index (trees_of l.script))
