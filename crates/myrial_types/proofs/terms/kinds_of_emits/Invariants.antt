-- what the columns so far are for
use Rattle.std.proofs.Common.{◌≡◌, map, take}
use Rattle.algebra.specs.Trees.{kind_of_emit}
use Rattle.myrial_scopes.specs.Resolutions.{emit_of}
use Rattle.myrial_scopes.specs.declared.emits.EmittedColumn.{EmittedColumn}
use Rattle.myrial_types.proofs.terms.kinds_of_emits.Given as goal

abbrev pub invariant-loop-emit : goal.invariant-loop-emit
invariant-loop-emit l = map kind_of_emit l.found ≡ map (λ (e : EmittedColumn). (emit_of e).aggregate) (take l.emit-index l.emits)
