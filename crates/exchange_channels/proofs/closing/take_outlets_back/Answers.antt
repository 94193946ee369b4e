use Rattle.std.proofs.Common.{◌<◌, ◌≡◌, ◌∙◌, length, get_or, sym, ap, arith, rules}
use Rattle.std.proofs.lemmas.List.{length-map}
use Rattle.std.proofs.lemmas.Iterator.Consumers.{YieldsList-turn}
use Rattle.std.proofs.lemmas.Iterator.Adapters.{YieldsList-from_vec}
use Rattle.exchange_channels.specs.Ports.{PortState}
use Rattle.exchange_channels.specs.Wirings.{OutletState, sent_to}
use Rattle.exchange_channels.proofs.ClosingLemmas.{same_place, same_places, sent_to-outlet_of, all_more}
use Rattle.exchange_channels.proofs.closing.take_outlets_back.Goals as goal

pub take_ports_back-requires : goal.take_ports_back-requires
take_ports_back-requires c =
    let t = YieldsList-turn (YieldsList-from_vec c.args.outs.items (search rules) (search rules)) c.loop-out.yielded c.loop-out.out-iterator c.loop-out.yielded_by c.next.result c.next.new.self c.in-Some.out c.in-Some.is c.next.ensures.steps in
    let same = same_places c.args.cells.now c.args.outs.items c.requires.places c.out.inside.number c.out.inside.senders c.out.inside.capacity c.out.inside.ports.items c.in-Some.out c.out.view_is (length c.loop-out.yielded) t.0 t.1 in
    let count : length c.out.inside.ports.items ≡ length c.args.cells.now =
    omega (arith, length-map c.out.inside.ports.items (λ (p : PortState). p.place), ap length same, length-map c.args.cells.now (λ (p : PortState). p.place)) in
    record {
      count = omega (arith, count);
      places = λ k d e below. let here : k < length c.args.cells.now = omega arith in
          same_place c.out.inside.ports.items c.args.cells.now same k d e here ∙ sym (ap (λ (p : PortState). p.place) (c.loop-out.invariant k d here));
      next = λ k d e below. let here : k < length c.args.cells.now = omega arith in
          let port : k < length c.out.inside.ports.items = omega arith in
          c.out.invariant k e port ∙ ap (λ (o : OutletState). o.sender) (c.out.view_is ∙ t.1) ∙ c.requires.in_order (length c.loop-out.yielded) c.in-Some.out t.0
          ∙ sym (length-map c.loop-out.yielded (λ (o : OutletState). sent_to o k)) ∙ sym (ap (λ (p : PortState). length p.knows.returned) (c.loop-out.invariant k d here));
    }

pub loop-out-preserved : goal.loop-out-preserved
loop-out-preserved c =
    let t = YieldsList-turn (YieldsList-from_vec c.args.outs.items (search rules) (search rules)) c.loop-out.yielded c.loop-out.out-iterator c.loop-out.yielded_by c.next.result c.next.new.self c.in-Some.out c.in-Some.is c.next.ensures.steps in
    let same = same_places c.args.cells.now c.args.outs.items c.requires.places c.out.inside.number c.out.inside.senders c.out.inside.capacity c.out.inside.ports.items c.in-Some.out c.out.view_is (length c.loop-out.yielded) t.0 t.1 in
    λ k d below.
    let port : k < length c.out.inside.ports.items = omega (arith, length-map c.out.inside.ports.items (λ (p : PortState). p.place), ap length same, length-map c.args.cells.now (λ (p : PortState). p.place)) in
    let here : k < length c.loop-out.cells = omega arith in
    all_more (get_or c.args.cells.now k d) (get_or c.loop-out.cells k d) (get_or c.take_ports_back.new.cells k d) k c.loop-out.yielded c.in-Some.out (get_or c.out.inside.ports.items k d).knows.sent
    (c.loop-out.invariant k d below) (c.take_ports_back.ensures k d d here)
    (sent_to-outlet_of c.out.inside.number c.out.inside.senders c.out.inside.capacity c.out.inside.ports.items c.in-Some.out c.out.view_is k d port)
