use Rattle.std.proofs.Common.{◌≡◌}
use Rattle.rel_io.specs.Taps.{with_sent}
use Rattle.row_exchange.specs.inner.Shipments.{rows_in}
use Rattle.row_exchange.specs.inner.Stations.{HasShipped}
use Rattle.row_exchange.proofs.sending.ship_all.Given as goal

abbrev pub invariant-loop-cell : goal.invariant-loop-cell
invariant-loop-cell g l =
    HasShipped l.yielded l.fn.outlet l.outlet
    × (g.T.Tap.totals l.tap ≡ with_sent (g.T.Tap.totals l.fn.tap) (rows_in l.yielded))
    × (g.T.Tap.tag l.tap ≡ g.T.Tap.tag l.fn.tap)
