use Rattle.std.proofs.Common.{◌≡◌, ◌∙◌, ◌+◌, ◌∷◌, [], All, length, length-append, arith, refl, sym, ap, subst}
use Rattle.std.proofs.lemmas.List.Elements.{All-head, All-tail}
use Rattle.row_exchange.specs.inner.Gatherings.{HasEnds}
use Rattle.row_exchange.proofs.GatheringLemmas.{apart-more, apart-none, apart-all, stations-more, stations-long}
use Rattle.row_exchange.proofs.gathering.take_apart.Goals as goal

pub loop-outgoing-init : goal.loop-outgoing-init
loop-outgoing-init g c =
    let long = stations-long c.args.halves.senders.items c.args.halves.receivers.items c.requires.paired in
    record {
      apart = apart-none _ c.args.taps.now.items c.args.outs.now.items c.args.ins.now.items c.args.given;
      paired = c.requires.paired;
      ends = c.requires.ends;
      taps = omega (arith, c.requires.taps, long);
      outs = omega (arith, c.requires.outs, long);
      ins = omega (arith, c.requires.ins, long);
      same = refl;
    }

pub finish-out-requires : goal.finish-out-requires
finish-out-requires g c =
    let e = stations-more c.pop.new.self.items c.loop-outgoing.senders.items c.pop-in-Some.new.self.items c.loop-outgoing.receivers.items c.in-Some.outgoing c.in-Some-pop.incoming
    c.in-Some.ensures.items c.in-Some-pop.ensures.items in
    let ends = All-head HasEnds _ _ (subst (All HasEnds) e c.loop-outgoing.invariant.ends) in
    (ends.out, ends.taken)

pub loop-outgoing-preserved : goal.loop-outgoing-preserved
loop-outgoing-preserved g c =
    let inv = c.loop-outgoing.invariant in
    let e = stations-more c.pop.new.self.items c.loop-outgoing.senders.items c.pop-in-Some.new.self.items c.loop-outgoing.receivers.items c.in-Some.outgoing c.in-Some-pop.incoming
    c.in-Some.ensures.items c.in-Some-pop.ensures.items in
    let os : length c.loop-outgoing.senders.items ≡ length c.pop.new.self.items + 1 = omega (arith, ap length c.in-Some.ensures.items, length-append c.pop.new.self.items (c.in-Some.outgoing ∷ [])) in
    let is : length c.loop-outgoing.receivers.items ≡ length c.pop-in-Some.new.self.items + 1 = omega (arith, ap length c.in-Some-pop.ensures.items, length-append c.pop-in-Some.new.self.items (c.in-Some-pop.incoming ∷ [])) in
    let f = c.finish-out.ensures in
    let r = c.finish-out.result in
    record {
      apart = apart-more _ _ _
          c.args.taps.now.items c.loop-outgoing.taps.items c.push_reserved.new.self.items c.push_reserved-in-Some.new.self.items
          c.args.outs.now.items c.loop-outgoing.outs.items c.put.new.self.items c.args.ins.now.items c.loop-outgoing.ins.items c.put-in-Some.new.self.items
          c.args.given c.loop-outgoing.given c.with_parts-given.result (record { outgoing = c.in-Some.outgoing; incoming = c.in-Some-pop.incoming }) r.out r.taken r.sending_tap r.receiving_tap r.outcome
          e c.push_reserved.ensures.items c.push_reserved-in-Some.ensures.items c.put.ensures.items c.put-in-Some.ensures.items
          f.out f.taken (λ j. sym f.sending_tap j ∷ sym f.receiving_tap j ∷ []) f.outcome c.with_parts-given.ensures inv.apart;
      paired = omega (arith, inv.paired, os, is);
      ends = All-tail HasEnds _ _ (subst (All HasEnds) e inv.ends);
      taps = omega (arith, inv.taps, os, c.push_reserved.ensures.len, c.push_reserved-in-Some.ensures.len, c.push_reserved.ensures.capacity, c.push_reserved-in-Some.ensures.capacity);
      outs = omega (arith, inv.outs, os, c.put.ensures.spare);
      ins = omega (arith, inv.ins, os, c.put-in-Some.ensures.spare);
      same = c.push_reserved-in-Some.ensures.capacity ∙ c.push_reserved.ensures.capacity ∙ inv.same;
    }

pub returns-clause-apart : goal.returns-clause-apart
returns-clause-apart g c =
    let none : length c.loop-outgoing.senders.items ≡ 0 = omega (arith, c.in_default.ensures.cases.0, c.loop-outgoing.senders.ok.0) in
    apart-all _ c.loop-outgoing.senders.items c.loop-outgoing.receivers.items c.args.taps.now.items c.loop-outgoing.taps.items c.args.outs.now.items c.loop-outgoing.outs.items
    c.args.ins.now.items c.loop-outgoing.ins.items c.args.given c.loop-outgoing.given none c.loop-outgoing.invariant.apart
