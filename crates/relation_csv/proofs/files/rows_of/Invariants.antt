-- the rows so far are those of the records that are no longer left
use Rattle.std.proofs.Common.{length}
use Rattle.relation_csv.specs.inner.RecordsLeft.{IsSteady, records_left}
use Rattle.relation_csv.proofs.RowsLemmas.{HasRows}
use Rattle.relation_csv.proofs.files.rows_of.Given as goal

abbrev pub invariant-rows : goal.invariant-rows
invariant-rows l = record {
  steady : IsSteady l.reader;
  read : HasRows l.schema (records_left l.initial.reader) (records_left l.reader) l.rows;
}

abbrev pub decreases-rows : goal.decreases-rows
decreases-rows l = length (records_left l.reader)
