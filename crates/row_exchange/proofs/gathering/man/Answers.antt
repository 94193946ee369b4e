use Rattle.std.proofs.Common.{◌≡◌, ◌∙◌, ◌+◌, ◌∷◌, [], length, length-append, arith, refl, ap}
use Rattle.std.proofs.lemmas.Grind.{common_steps}
use Rattle.row_exchange.proofs.GatheringLemmas.{manned-more, manned-all, stations-more}
use Rattle.row_exchange.proofs.gathering.man.Goals as goal

pub loop-outlet-preserved : goal.loop-outlet-preserved
loop-outlet-preserved g c =
    let inv = c.loop-outlet.invariant in
    let o = c.outgoing-outgoing in
    let i = c.incoming in
    let w = o.ensures.work in
    let out = c.push_reserved in
    let in_ = c.push_reserved-in-Some in
    let outs : length c.loop-outlet.outlets ≡ length c.pop.new.self + 1 = omega (arith, ap length c.in-Some.ensures.items, length-append c.pop.new.self (c.in-Some.outlet ∷ [])) in
    let ins : length c.loop-outlet.intakes ≡ length c.pop-in-Some.new.self + 1 = omega (arith, ap length c.in-Some-pop.ensures.items, length-append c.pop-in-Some.new.self (c.in-Some-pop.intake ∷ [])) in
    record {
      manned = manned-more c.args.route.now c.args.parts.now c.args.size c.args.outlets c.loop-outlet.outlets c.pop.new.self c.args.intakes c.loop-outlet.intakes c.pop-in-Some.new.self
          c.args.taps.now.items c.loop-outlet.taps.items c.pop_two-sending_tap.new.taps.items _ _ c.in-Some.outlet c.in-Some-pop.intake
          c.pop_two-sending_tap.result.0 c.pop_two-sending_tap.result.1 (record { outgoing = o.result; incoming = i.result })
          c.in-Some.ensures.items c.in-Some-pop.ensures.items c.pop_two-sending_tap.ensures.taps
          (stations-more c.loop-outlet.senders.items out.new.self.items c.loop-outlet.receivers.items in_.new.self.items o.result i.result out.ensures.items in_.ensures.items)
          o.ensures.outlet i.ensures.intake
          (λ j. o.ensures.tap j ∷ i.ensures.tap j ∷ [])
          (w.worker_is ∙ c.len-worker.ensures)
          (record { out = record { route_is = w.route_is; parts_are = w.parts_are; size_is = w.size_is; worker_is = refl }; atoms = i.ensures.atoms ∙ c.len.ensures })
          inv.manned;
      paired = omega (arith, inv.paired, ap length out.ensures.items, ap length in_.ensures.items, length-append c.loop-outlet.senders.items (o.result ∷ []), length-append c.loop-outlet.receivers.items (i.result ∷ []));
      count = omega (arith, inv.count, outs, ins);
      taps = omega (arith, inv.taps, outs, c.pop_two-sending_tap.ensures.len);
      senders_room = omega (arith, inv.senders_room, outs, out.ensures.len, out.ensures.capacity);
      receivers_room = omega (arith, inv.receivers_room, outs, in_.ensures.len, in_.ensures.capacity);
      same = c.pop_two-sending_tap.ensures.room ∙ inv.same;
    }

pub returns-clause-manned : goal.returns-clause-manned
returns-clause-manned g c =
    let none : length c.loop-outlet.outlets ≡ 0 = grind (arith, common_steps) in
    let inv = c.loop-outlet.invariant in
    manned-all c.args.route.now c.args.parts.now c.args.size c.args.outlets c.loop-outlet.outlets c.args.intakes c.loop-outlet.intakes c.args.taps.now.items c.loop-outlet.taps.items _
    none (omega (arith, none, inv.count)) (omega (arith, none, inv.taps, c.loop-outlet.taps.ok.0)) inv.manned
