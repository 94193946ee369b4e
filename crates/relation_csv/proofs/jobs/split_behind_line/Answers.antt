use Rattle.std.proofs.Common.{◌+◌, refl, arith}
use Rattle.std.proofs.lemmas.Grind.{common_steps}
use Rattle.std.proofs.lemmas.Str.{IsCharBoundary-after_ascii}
use Rattle.relation_csv.proofs.RangeLemmas.{line_feed_at}
use Rattle.relation_csv.proofs.jobs.split_behind_line.Goals as goal

pub range-requires-clause-end_boundary : goal.range-requires-clause-end_boundary
range-requires-clause-end_boundary c =
    let (low, feed) = line_feed_at c.args.text.now _ c.args.from c.in-Some.at (rw c.as_bytes.ensures.value refl) (omega arith) c.in-Some.ensures in
    IsCharBoundary-after_ascii c.args.text.now (c.args.from + c.in-Some.at) c.utf8.text low (omega (arith, feed))

pub range_from-requires : goal.range_from-requires
range_from-requires c = λ _.
    let (low, feed) = line_feed_at c.args.text.now _ c.args.from c.in-Some.at (rw c.as_bytes.ensures.value refl) (omega arith) c.in-Some.ensures in
    IsCharBoundary-after_ascii c.args.text.now (c.args.from + c.in-Some.at) c.utf8.text low (omega (arith, feed))

pub returns-clause-whole : goal.returns-clause-whole
returns-clause-whole c = grind (arith, common_steps)

pub returns-clause-ends : goal.returns-clause-ends
returns-clause-ends c = grind (arith, common_steps)
