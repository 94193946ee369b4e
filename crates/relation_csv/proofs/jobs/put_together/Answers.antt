use Rattle.std.proofs.Common.{◌≡◌, ◌+◌, ◌≤◌, length, arith, length-append}
use Rattle.rel_base.specs.Limits.{most_rows}
use Rattle.relation_csv.specs.inner.Ranges.{found_part}
use Rattle.relation_csv.proofs.RangeLemmas.{ArePutTogether-push}
use Rattle.relation_csv.proofs.jobs.put_together.Goals as goal

pub loop-part-preserved : goal.loop-part-preserved
loop-part-preserved c =
    let rows = c.loop-part.rows in
    let part = c.in-Some-2.part in
    let is : c.in-Some.part ≡ found_part part = cc in
    let low : length rows + length part ≤ most_rows = omega (arith, c.loop-part.invariant.few) in
    record {
      together = rw (c.in_ok-append.ensures.ok, is) (ArePutTogether-push c.loop-part.yielded rows part
          c.loop-part.invariant.together low);
      few = rw c.in_ok-append.ensures.ok (omega (arith, low, length-append rows part));
    }
