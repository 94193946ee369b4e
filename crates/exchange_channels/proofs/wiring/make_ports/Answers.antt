use Rattle.std.proofs.Common.{◌<◌, arith}
use Rattle.exchange_channels.specs.inner.Keeps.{keeper_with_sender}
use Rattle.exchange_channels.proofs.PortLemmas.{map_of_places}
use Rattle.std.proofs.lemmas.Grind.{common_steps}
use Rattle.exchange_channels.proofs.wiring.make_ports.Goals as goal

pub returns-clause-cells : goal.returns-clause-cells
returns-clause-cells c =
    map_of_places keeper_with_sender c.args.cells.now c.loop-cell.cells (omega arith)
    (λ k d below. let here : k < c.loop-cell.cell-index = omega arith in c.loop-cell.invariant.made k d here)

pub loop-cell-preserved : goal.loop-cell-preserved
loop-cell-preserved c = grind (arith, common_steps)
