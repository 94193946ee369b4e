use Rattle.std.proofs.Common.{◌≡◌, true, take, All}
use Rattle.myrial_ast.specs.Groups.{row_fits}
use Rattle.regular_shuffle.proofs.reading.read_spread.Given as goal

abbrev pub invariant-loop-rows : goal.invariant-loop-rows
invariant-loop-rows l = All (All (λ row. row_fits row ≡ true)) (take l.rows-index l.rows-items)
