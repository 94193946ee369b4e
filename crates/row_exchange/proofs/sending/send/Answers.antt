use Rattle.std.proofs.Common.{arith}
use Rattle.row_exchange.proofs.ShippingLemmas.{sent-all}
use Rattle.row_exchange.proofs.sending.send.Goals as goal

pub returns-in-Ok-clause-sent : goal.returns-in-Ok-clause-sent
returns-in-Ok-clause-sent g c =
    let h = c.ship.ensures.shipped in
    let all = sent-all (g.W.Route.cells c.args.route.now) c.args.parts.now c.args.size.workers c.args.size.batch c.args.worker c.in-Ok.shipments.items c.args.outlet c.ship.result
    c.requires.fresh c.in-Ok.ensures h in
    record { wiring = h.wiring; sender = h.sender; cells_are = all.1; ok = all.0; err = tt; few = omega (arith, h.count_is, c.in-Ok.ensures.few) }
