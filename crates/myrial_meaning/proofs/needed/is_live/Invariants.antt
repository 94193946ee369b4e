use Rattle.std.proofs.Common.{◌≡◌, drop}
use Rattle.myrial_ast.specs.Trees.{trees_of}
use Rattle.myrial_meaning.specs.Needed.{is_live}
use Rattle.myrial_meaning.proofs.needed.is_live.Given as goal

abbrev pub invariant-loop-i : goal.invariant-loop-i
invariant-loop-i l = is_live l.name (trees_of l.rest) ≡ is_live l.name (drop l.i (trees_of l.rest))
