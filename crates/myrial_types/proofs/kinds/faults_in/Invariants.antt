-- what is wrong so far
use Rattle.std.proofs.Common.{◌≡◌, map, take}
use Rattle.std.specs.Prelude.{option_map}
use Rattle.myrial_ast.specs.Trees.{tree_of, emit_tree_of}
use Rattle.myrial_types.specs.inner.Readings.{faults_in}
use Rattle.myrial_types.proofs.kinds.faults_in.Given as goal

abbrev pub invariant-loop-emit : goal.invariant-loop-emit
invariant-loop-emit l = l.faults
    ≡ faults_in l.schemas (option_map tree_of l.condition) (map emit_tree_of (take l.emit-index l.emits))
