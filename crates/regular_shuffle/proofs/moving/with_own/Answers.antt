use Rattle.std.proofs.Common.{arith}
use Rattle.regular_shuffle.specs.inner.Broadcasts.{own_in}
use Rattle.regular_shuffle.proofs.MovingLemmas.{own-back, own-at, fewer}
use Rattle.regular_shuffle.proofs.moving.with_own.Goals as goal

pub loop-parts-preserved : goal.loop-parts-preserved
loop-parts-preserved c =
    let a = c.args in record {
      own = own-back a.spread.now a.stays c.loop-parts.given c.pop.new.self c.loop-parts.backwards.items c.push.new.self.items (own_in a.spread.now a.stays a.given)
          c.in-Some.parts c.in_ok-with_rows.field-0 c.get-own.result.now c.in-Some.ensures.items c.in_ok-push.ensures.items c.in_ok-with_rows.ensures
          (own-at a.spread.now c.pop.new.self c.len-in-Some.result c.get-own.result.now c.len-in-Some.ensures c.get-own.ensures) c.loop-parts.invariant.each c.loop-parts.invariant.own;
      each = omega (arith, c.loop-parts.invariant.each, fewer c.loop-parts.given c.pop.new.self c.in-Some.parts c.in-Some.ensures.items);
    }
