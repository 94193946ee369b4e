use Rattle.std.proofs.Common.{◌-◌, ◌+◌, ◌∙◌, arith, rules}
use Rattle.csv.specs.Records.{fields_of}
use Rattle.relation_csv.proofs.RecordsLeftLemmas.{drop-records_left, drop-records_left-none}
use Rattle.relation_csv.proofs.records.skip_records.Goals as goal

pub records-preserved : goal.records-preserved
records-preserved c =
    let steady = c.records.invariant.steady in
    record {
      steady = search rules;
      left = c.records.invariant.left
          ∙ drop-records_left (c.args.count - (c.records.counter + 1)) (c.args.count - c.records.counter)
          c.records.reader c.read_byte_record.new.self (fields_of c.read_byte_record.new.row) (omega arith) steady
          (rw c.in-Ok-true.field-0-test at (c.in-Ok-true.ensures.reads steady.untrimmed steady.ready));
    }

pub returns-in-Ok-false-clause-left : goal.returns-in-Ok-false-clause-left
returns-in-Ok-false-clause-left c =
    let steady = c.records.invariant.steady in
    c.records.invariant.left
    ∙ drop-records_left-none (c.args.count - c.records.counter)
    c.records.reader c.read_byte_record.new.self (fields_of c.read_byte_record.new.row) steady
    (rw c.in-Ok-false.field-0-test at (c.in-Ok-false.ensures.reads steady.untrimmed steady.ready))
