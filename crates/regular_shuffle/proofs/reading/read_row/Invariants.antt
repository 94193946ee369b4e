use Rattle.std.proofs.Common.{◌≡◌, true, take}
use Rattle.myrial_ast.specs.Groups.{row_fits}
use Rattle.regular_shuffle.proofs.reading.read_row.Given as goal

abbrev pub invariant-loop-value : goal.invariant-loop-value
invariant-loop-value l = row_fits (take l.value-index l.row) ≡ true
