use Rattle.std.proofs.Common.{◌≡◌, Some, map, take}
use Rattle.myrial_ast.specs.Trees.{emit_tree_of}
use Rattle.myrial_scopes.specs.Emits.{emits_of}
use Rattle.myrial_scopes.specs.Resolutions.{emit_of}
use Rattle.myrial_scopes.proofs.scopes.Scope.emits.Given as goal

abbrev pub invariant-loop-item : goal.invariant-loop-item
invariant-loop-item l = emits_of l.self (map emit_tree_of (take l.item-index l.items)) ≡ Some (map emit_of l.all.items)
