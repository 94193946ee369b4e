-- the loads of the statements so far
use Rattle.std.proofs.Common.{◌≡◌, take}
use Rattle.std.specs.List.{flat_map}
use Rattle.myrial_ast.specs.Trees.{trees_of}
use Rattle.myrial_meaning.specs.Fetches.{loads_in}
use Rattle.myrial_types.proofs.fetching.loads_of.Given as goal

abbrev pub invariant-loop-statement : goal.invariant-loop-statement
invariant-loop-statement l = l.loads.items ≡ flat_map loads_in (trees_of (take l.statement-index l.script))
