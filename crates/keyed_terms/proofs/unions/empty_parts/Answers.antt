use Rattle.std.proofs.Common.{[], length, ap, arith}
use Rattle.std.proofs.lemmas.List.FromFn.{length-map-range_with_len}
use Rattle.myrial_ast.specs.Combinations.{Rows}
use Rattle.keyed_terms.proofs.MakingLemmas.{more-workers}
use Rattle.keyed_terms.proofs.unions.empty_parts.Goals as goal

pub push-requires : goal.push-requires
push-requires c =
    omega (arith, ap length c.loop-worker.invariant, length-map-range_with_len {X = Rows} (λ w. []) 0 c.loop-worker._worker, c.loop-worker-test.true, c.ranges.workers.fits)

pub loop-worker-preserved : goal.loop-worker-preserved
loop-worker-preserved c =
    more-workers (λ w. []) c.loop-worker._worker c.loop-worker.made c.push.new.self c.new.result c.loop-worker.invariant c.new.ensures c.in_ok-push.ensures.ok
