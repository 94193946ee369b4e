use Rattle.std.proofs.Common.{◌≡◌, true, take, All}
use Rattle.myrial_ast.specs.Groups.{row_fits}
use Rattle.regular_shuffle.proofs.reading.read_values.Given as goal

abbrev pub invariant-loop-spread : goal.invariant-loop-spread
invariant-loop-spread l = All (All (All (λ row. row_fits row ≡ true))) (take l.spread-index l.spread-items)
