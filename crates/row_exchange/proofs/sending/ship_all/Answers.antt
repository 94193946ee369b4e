use Rattle.std.proofs.Common.{◌<◌, ◌∙◌, length, sym, ap, subst, arith}
use Rattle.std.proofs.lemmas.Iterator.Adapters.{YieldsList-from_vec}
use Rattle.std.proofs.lemmas.Iterator.Consumers.{YieldsList-turn}
use Rattle.rel_io.specs.Taps.{with_sent}
use Rattle.row_exchange.specs.inner.Shipments.{Shipment, rows_in}
use Rattle.row_exchange.specs.inner.Stations.{HasShipped}
use Rattle.row_exchange.proofs.FillingLemmas.{rows_in-push}
use Rattle.row_exchange.proofs.ShippingLemmas.{ship-step, told-twice, fresh-long}
use Rattle.row_exchange.proofs.sending.ship_all.Goals as goal

pub loop-cell-preserved : goal.loop-cell-preserved
loop-cell-preserved g c =
    let inv = c.loop-cell.invariant in
    let s : Shipment = (c.in-Some.cell, c.in-Some.batch) in
    let ts = c.args.shipments.items in
    let b = c.into_iter-cell-iterator.ensures.into_iter_gives in
    let road = YieldsList-from_vec ts b.0 (b.1 ∙ c.args.shipments.ok.0) in
    let t = YieldsList-turn road c.loop-cell.yielded c.loop-cell.cell-iterator c.loop-cell.yielded_by c.next.result c.next.new.self s c.in-Some.is c.next.ensures.steps in
    let inside : c.in-Some.cell < c.args.size.workers = subst (λ (x : Shipment). x.0 < c.args.size.workers) (sym t.1) (c.requires.cells (length c.loop-cell.yielded) s t.0) in (
      subst (HasShipped _ c.args.outlet.now) (sym c.send.ensures)
          (ship-step c.loop-cell.yielded c.args.outlet.now c.loop-cell.outlet s inv.0
          (omega (arith, inside, inv.0.cells, fresh-long c.args.size.workers c.args.outlet.now c.requires.fresh))),
      c.sent.ensures.totals ∙ ap (λ t. with_sent t c.from-rows.result) inv.1 ∙ told-twice (g.T.Tap.totals c.args.tap.now) (rows_in c.loop-cell.yielded) c.from-rows.result
          ∙ ap (with_sent (g.T.Tap.totals c.args.tap.now)) (omega (arith, rows_in-push c.loop-cell.yielded s, c.from-rows.ensures, c.len.ensures)),
      c.sent.ensures.tag ∙ inv.2,
    )
