use Rattle.std.proofs.Common.{◌≡◌, ◌∙◌, List, All, length, map, ap, sym, subst}
use Rattle.std.proofs.lemmas.List.Elements.{All-map}
use Rattle.std.proofs.lemmas.List.{with_items_is}
use Rattle.exchange_channels.specs.Messages.{end_of}
use Rattle.exchange_channels.specs.Ports.{PortState}
use Rattle.exchange_channels.specs.Wirings.{with_ends}
use Rattle.exchange_channels.specs.inner.Outlets.{outlet_of, port_with_sent}
use Rattle.exchange_channels.proofs.PortLemmas.{outlet_of-ended}
use Rattle.exchange_channels.proofs.outlets.Outlet.end.Goals as goal

pub invariant_of-result : goal.invariant_of-result
invariant_of-result g c =
    let ended = c.end_each.new.ports in
    let same = c.as_mut_slice.ensures.value in
    let long : length ended ≡ length c.self.inside.ports.items = c.end_each.auto.ports ∙ ap length same in
    let each : ended ≡ map (λ port. port_with_sent port (end_of c.self.inside.number)) c.self.inside.ports.items =
    c.end_each.ensures ∙ ap (map (λ (port : PortState). port_with_sent port (end_of c.self.inside.number))) same in
    subst (All (λ (port : PortState). port.knows.sender ≡ c.self.inside.number))
    (sym (with_items_is c.self.inside.ports ended (long ∙ sym c.self.inside.ports.ok.0) ∙ each))
    (All-map (λ (port : PortState). port.knows.sender ≡ c.self.inside.number) (λ port. port_with_sent port (end_of c.self.inside.number)) c.self.inside.ports.items
    (λ k d below. (c.self.invariant k d below).of_sender))

pub returns : goal.returns
returns g c =
    let ended = c.end_each.new.ports in
    let same = c.as_mut_slice.ensures.value in
    let long : length ended ≡ length c.self.inside.ports.items = c.end_each.auto.ports ∙ ap length same in
    let each : ended ≡ map (λ port. port_with_sent port (end_of c.self.inside.number)) c.self.inside.ports.items =
    c.end_each.ensures ∙ ap (map (λ (port : PortState). port_with_sent port (end_of c.self.inside.number))) same in
    ap (λ (ports : List PortState). outlet_of c.self.inside.number c.self.inside.senders c.self.inside.capacity ports) (with_items_is c.self.inside.ports ended (long ∙ sym c.self.inside.ports.ok.0) ∙ each)
    ∙ outlet_of-ended c.self.inside.number c.self.inside.senders c.self.inside.capacity c.self.inside.ports.items
    ∙ ap with_ends c.self.view_is
