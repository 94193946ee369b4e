use Rattle.std.proofs.Common.{◌≡◌, [], arith}
use Rattle.std.proofs.lemmas.Result.{IfOk-weaker}
use Rattle.row_exchange.specs.inner.Stations.{AreGathered}
use Rattle.row_exchange.proofs.ReceivingLemmas.{nothing-gathered, gathered-step, all-gathered, nil-from_pop}
use Rattle.row_exchange.proofs.receiving.gather.Goals as goal

pub loop-batch-init : goal.loop-batch-init
loop-batch-init c = nothing-gathered c.args.atoms c.args.drained c.in_ok-left.left.items c.in_ok-gathered.gathered.items c.in_ok-left.ensures c.in_ok-gathered.ensures

pub loop-batch-preserved : goal.loop-batch-preserved
loop-batch-preserved c =
    gathered-step c.args.atoms c.args.drained c.loop-batch.left.items c.pop.new.self.items (c.in-Some.field-0-0, c.in-Some.batch) c.loop-batch.gathered.items c.add.new.gathered.items
    c.in-Some.ensures.items c.in_ok-add.ensures c.loop-batch.invariant

pub returns : goal.returns
returns c =
    let left : c.loop-batch.left.items ≡ [] = nil-from_pop c.loop-batch.left.items c.pop.result c.in_default.is
    (λ some. let low = c.pop.ensures.variant.0 some in omega (arith, low), λ low. c.pop.ensures.variant.1 (omega (arith, low))) in
    IfOk-weaker c.into_parts.result (λ parts. parts ≡ c.loop-batch.gathered.items) (AreGathered c.args.atoms c.args.drained)
    (λ parts e. all-gathered c.args.atoms c.args.drained c.loop-batch.left.items c.loop-batch.gathered.items parts left e c.loop-batch.invariant) c.into_parts.ensures
