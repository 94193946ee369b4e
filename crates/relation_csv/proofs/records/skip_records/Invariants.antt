-- the records that are still to be passed over lie in front of those that are left
use Rattle.std.proofs.Common.{◌≡◌, ◌-◌, drop}
use Rattle.relation_csv.specs.inner.RecordsLeft.{IsSteady, records_left}
use Rattle.relation_csv.proofs.records.skip_records.Given as goal

abbrev pub invariant-records : goal.invariant-records
invariant-records l = record {
  steady : IsSteady l.reader;
  left : drop l.count (records_left l.initial.reader) ≡ drop (l.count - l.counter) (records_left l.reader);
}
