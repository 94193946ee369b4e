-- those of the columns so far
use Rattle.std.proofs.Common.{◌≡◌, filter, take}
use Rattle.myrial_ast.specs.KeptRows.{lies_in}
use Rattle.plan_rewrite.proofs.pushing.columns_within.Given as goal

abbrev pub invariant-loop-column : goal.invariant-loop-column
invariant-loop-column l = l.found.items ≡ filter (lies_in l.span) (take l.column-index l.columns)
