use Rattle.std.proofs.Common.{◌≡◌, ◌<◌, ◌∙◌, length, ap, sym, subst, arith, rules}
use Rattle.std.proofs.lemmas.Iterator.Consumers.{YieldsList-turn}
use Rattle.std.proofs.lemmas.Iterator.Adapters.{YieldsList-from_vec}
use Rattle.exchange_channels.specs.Ports.{PortState}
use Rattle.exchange_channels.specs.Wirings.{IntakeState, HasEachEnd}
use Rattle.exchange_channels.specs.inner.Keeps.{keeper_with_receiver}
use Rattle.exchange_channels.proofs.ClosingLemmas.{back_more, rest_more, ends_more}
use Rattle.exchange_channels.proofs.closing.take_intakes_back.Goals as goal

pub loop-taken-preserved : goal.loop-taken-preserved
loop-taken-preserved c =
    let t = YieldsList-turn (YieldsList-from_vec c.args.ins.items (search rules) (search rules)) c.loop-taken.yielded c.loop-taken.taken-iterator c.loop-taken.yielded_by c.next.result c.next.new.self c.in-Some.taken c.in-Some.is c.next.ensures.steps in
    let here : c.taken.inside.number ≡ length c.loop-taken.yielded =
    ap (λ (t : IntakeState). t.cell) (c.taken.view_is ∙ t.1) ∙ c.requires.in_order (length c.loop-taken.yielded) c.in-Some.taken t.0 in
    let within : c.taken.inside.number < length c.loop-taken.cells = omega (arith, t.0) in
    let back : c.take_receiver_back.new.self ≡ keeper_with_receiver c.index-cells-number.result c.in-Some.taken.got =
    c.take_receiver_back.ensures ∙ ap (λ (p : PortState). keeper_with_receiver p c.taken.inside.port.knows.got) (sym c.index-cells-number.is)
    ∙ ap (λ (t : IntakeState). keeper_with_receiver c.index-cells-number.result t.got) c.taken.view_is in
    record {
      back = back_more c.args.cells.now c.loop-taken.cells c.loop-taken.yielded c.in-Some.taken c.taken.inside.number c.index-cells-number.result c.take_receiver_back.new.self here within c.index-cells-number.is back c.loop-taken.invariant.back c.loop-taken.invariant.rest;
      rest = rest_more c.args.cells.now c.loop-taken.cells c.loop-taken.yielded c.in-Some.taken c.taken.inside.number c.index-cells-number.result c.take_receiver_back.new.self here within c.index-cells-number.is back c.loop-taken.invariant.rest;
      ends = ends_more c.loop-taken.yielded c.in-Some.taken c.loop-taken.invariant.ends (subst (λ (t : IntakeState). HasEachEnd t.senders t.got) c.taken.view_is c.taken.invariant);
    }
