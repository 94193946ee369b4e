use Rattle.std.proofs.Common.{arith, length, ap}
use Rattle.engine.specs.inner.Held.{parts_held}
use Rattle.engine.proofs.ListLemmas.{few-taken}
use Rattle.engine.proofs.held.Held.parts_of_each.Goals as goal

pub push-requires : goal.push-requires
push-requires c =
    let long = ap length c.loop-source.invariant in
    omega (arith, long, few-taken (parts_held c.args.self.now) c.loop-source.source-index c.args.sources.now, c.as_slice-source-items.ensures.bound, ap length c.as_slice-source-items.ensures.value, c.loop-source-test.true)
