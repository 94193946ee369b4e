use Rattle.std.proofs.Common.{◌<◌, ◌≤◌, ◌+◌, arith, get_or}
use Rattle.std.proofs.lemmas.List.Elements.{All-more}
use Rattle.rel_base.proofs.shared_rows.run_length.Goals as goal

pub loop-count-preserved : goal.loop-count-preserved
loop-count-preserved c =
    let xs = c.args.places.now in
    let i = c.loop-count.count in
    let inv = c.loop-count.invariant in
    let low : c.args.start ≤ get_or xs i 0 = omega (arith, c.if-start-places.true) in
    let high : get_or xs i 0 < c.args.start + c.args.len = omega (arith, c.if-start-places.true, c.if-places-count.true) in (
      omega (arith, c.loop-count-test.true),
      All-more (λ p. c.args.start ≤ p) xs i 0 c.loop-count-test.true inv.1 low,
      All-more (λ p. p < c.args.start + c.args.len) xs i 0 c.loop-count-test.true inv.2 high,
    )
