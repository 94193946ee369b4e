-- what the columns so far emit
use Rattle.std.proofs.Common.{◌≡◌, map, take}
use Rattle.myrial_ast.specs.ScalarTrees.{scalar_tree_of}
use Rattle.myrial_scopes.specs.Resolutions.{emit_of}
use Rattle.myrial_scopes.specs.declared.emits.EmittedColumn.{EmittedColumn}
use Rattle.myrial_types.proofs.terms.scalars_of.Given as goal

abbrev pub invariant-loop-emit : goal.invariant-loop-emit
invariant-loop-emit l = map scalar_tree_of l.found ≡ map (λ (e : EmittedColumn). (emit_of e).scalar) (take l.emit-index l.emits)
