use Rattle.std.proofs.Common.{subst, sym}
use Rattle.row_exchange.specs.inner.Stations.{HasShipped}
use Rattle.row_exchange.proofs.ShippingLemmas.{ship-ended}
use Rattle.row_exchange.proofs.sending.ship.Goals as goal

pub returns-clause-shipped : goal.returns-clause-shipped
returns-clause-shipped g c =
    subst (HasShipped c.args.shipments.items c.args.outlet) (sym c.end.ensures) (ship-ended c.args.shipments.items c.args.outlet c.ship_all.new.outlet c.ship_all.ensures.shipped)
