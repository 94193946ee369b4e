use Rattle.std.proofs.Common.{◌<◌, ◌++◌, [], length, get_or, ap, ◌∙◌, arith}
use Rattle.std.proofs.lemmas.List.FromFn.{length-map-range_with_len}
use Rattle.keyed_terms.proofs.MakingLemmas.{rows-at, few-at, more-workers}
use Rattle.keyed_terms.proofs.unions.union_parts.Goals as goal

pub append-requires : goal.append-requires
append-requires c =
    let w = c.loop-worker.worker in
    let inside : w < length c.args.left.now = omega arith in
    let there : w < length c.args.right.now = omega arith in
    omega (
      arith,
      few-at c.args.left.now w inside,
      few-at c.args.right.now w there,
      ap length (rows-at c.args.left.now w c.get.result.now inside c.get.ensures),
      ap length (rows-at c.args.right.now w c.get-in-loop-worker.result.now there c.get-in-loop-worker.ensures),
      c.requires.few,
    )

pub push-requires : goal.push-requires
push-requires c =
    omega (
      arith,
      ap length c.loop-worker.invariant,
      length-map-range_with_len (λ w. get_or c.args.left.now w [] ++ get_or c.args.right.now w []) 0 c.loop-worker.worker,
      c.loop-worker-test.true,
    )

pub loop-worker-preserved : goal.loop-worker-preserved
loop-worker-preserved c =
    let w = c.loop-worker.worker in
    let inside : w < length c.args.left.now = omega arith in
    let there : w < length c.args.right.now = omega arith in
    let a = rows-at c.args.left.now w c.get.result.now inside c.get.ensures in
    let b = rows-at c.args.right.now w c.get-in-loop-worker.result.now there c.get-in-loop-worker.ensures in
    more-workers (λ w. get_or c.args.left.now w [] ++ get_or c.args.right.now w []) w c.loop-worker.made c.push.new.self c.in_ok-rows.rows
    c.loop-worker.invariant (c.in_ok-rows.ensures ∙ (λ i. a i ++ b i)) c.in_ok-push.ensures.ok
