use Rattle.std.proofs.Common.{take}
use Rattle.row_exchange.specs.inner.Pairs.{times_to}
use Rattle.row_exchange.specs.inner.Shipments.{Gathers, row_at}
use Rattle.row_exchange.proofs.filling.Filling.put_row.Given as goal

abbrev pub invariant-loop-cell : goal.invariant-loop-cell
invariant-loop-cell l = Gathers (λ w. times_to w (take l.cell-index l.cells) (row_at l.fn.self l.number)) l.cell-index l.fn.self l.self
