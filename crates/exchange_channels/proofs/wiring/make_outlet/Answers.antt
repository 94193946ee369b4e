use Rattle.std.proofs.Common.{◌∙◌, List, All, ap, sym, subst}
use Rattle.exchange_channels.specs.Ports.{PortState}
use Rattle.exchange_channels.specs.inner.Outlets.{outlet_of, IsRunning}
use Rattle.exchange_channels.proofs.WiringLemmas.{kept_more, places_kept, next_sender_runs, outlet_of-next_sender}
use Rattle.exchange_channels.proofs.wiring.make_outlet.Goals as goal

pub invariant_of-result : goal.invariant_of-result
invariant_of-result c =
    subst (All (IsRunning c.args.number)) (sym c.in_ok-ports.ensures.ports) (next_sender_runs c.args.cells.now c.args.capacity c.args.number c.requires)

pub returns-clause-cells : goal.returns-clause-cells
returns-clause-cells c = kept_more c.args.cells.now c.make_ports.new.cells c.in_ok-ports.ensures.cells c.args.capacity c.args.number c.requires

pub returns-clause-places : goal.returns-clause-places
returns-clause-places c = places_kept c.args.cells.now c.make_ports.new.cells c.in_ok-ports.ensures.cells

pub returns-clause-outlet : goal.returns-clause-outlet
returns-clause-outlet c =
    ap (λ (ports : List PortState). outlet_of c.args.number c.args.senders c.args.capacity ports) c.in_ok-ports.ensures.ports
    ∙ outlet_of-next_sender c.args.cells.now c.args.number c.args.senders c.args.capacity
