use Rattle.row_exchange.specs.inner.Shipments.{IsFilledTo}
use Rattle.row_exchange.proofs.filling.fill.Given as goal

abbrev pub invariant-loop-atom : goal.invariant-loop-atom
invariant-loop-atom g l = IsFilledTo (g.W.Route.cells l.route) l.parts l.size.workers l.size.batch l.worker l.atom l.filled.items
