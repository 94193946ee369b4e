-- the copies so far have the trees of the items so far
use Rattle.std.proofs.Common.{◌≡◌, length, map, take}
use Rattle.myrial_ast.specs.Trees.{emit_tree_of}
use Rattle.myrial_ast.proofs.relations.copy_of_emits.Given as goal

abbrev pub invariant-loop-emit : goal.invariant-loop-emit
invariant-loop-emit l = (map emit_tree_of l.copies ≡ map emit_tree_of (take l.emit-index l.emits)) × (length l.copies ≡ l.emit-index)
