-- the rows so far are those of the parts so far
use Rattle.std.proofs.Common.{◌≤◌, length}
use Rattle.rel_base.specs.Limits.{most_rows}
use Rattle.relation_csv.specs.inner.Ranges.{ArePutTogether}
use Rattle.relation_csv.proofs.jobs.put_together.Given as goal

abbrev pub invariant-loop-part : goal.invariant-loop-part
invariant-loop-part l = record {
  together : ArePutTogether l.yielded l.rows;
  few : length l.rows ≤ most_rows;
}
