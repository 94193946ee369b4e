use Rattle.std.proofs.Common.{◌<◌, ◌∙◌, length, ap, arith}
use Rattle.std.proofs.lemmas.Grind.{common_steps}
use Rattle.std.proofs.lemmas.List.{length-map}
use Rattle.exchange_channels.specs.Messages.{batch_of}
use Rattle.exchange_channels.specs.Ports.{PortState}
use Rattle.exchange_channels.specs.Wirings.{OutletState, cells_of, with_sent_to}
use Rattle.exchange_channels.specs.inner.Outlets.{port_with_sent}
use Rattle.exchange_channels.proofs.PortLemmas.{outlet_of-set}
use Rattle.exchange_channels.proofs.outlets.Outlet.send.Goals as goal

pub returns : goal.returns
returns g c =
    let here : c.args.cell < length c.self.inside.ports.items =
    omega (arith, ap (λ (o : OutletState). cells_of o.wiring) c.self.view_is, length-map c.self.inside.ports.items (λ (p : PortState). p.place)) in
    outlet_of-set c.self.inside.number c.self.inside.senders c.self.inside.capacity c.self.inside.ports.items c.args.cell c.index_mut.result.now c.send.new.self
    (batch_of c.self.inside.number c.args.batch) here (c.send.ensures ∙ ap (λ (p : PortState). port_with_sent p (batch_of c.self.inside.number c.args.batch)) c.index_mut.ensures.value)
    ∙ ap (λ (o : OutletState). with_sent_to o c.args.cell (batch_of o.sender c.args.batch)) c.self.view_is

pub invariant_of-self : goal.invariant_of-self
invariant_of-self g c = grind (arith, common_steps)

pub send-requires-clause-sender : goal.send-requires-clause-sender
send-requires-clause-sender g c = grind (arith, common_steps)

pub send-requires-clause-running : goal.send-requires-clause-running
send-requires-clause-running g c = grind (arith, common_steps)

pub index_mut-requires : goal.index_mut-requires
index_mut-requires g c = grind (arith, common_steps)
