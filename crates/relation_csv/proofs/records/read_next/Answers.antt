use Rattle.std.proofs.Common.{◌≡◌}
use Rattle.csv.specs.Reading.{error_kind}
use Rattle.csv.specs.Records.{fields_of}
use Rattle.csv.specs.declared.error.ErrorKind.TheVariants as kind
use Rattle.relation_csv.proofs.RecordsLeftLemmas.{is_text-AllText, records_left-found, records_left-none, records_left-not_text}
use Rattle.relation_csv.proofs.records.read_next.Goals as goal

pub returns-in-Ok-true-clause-next : goal.returns-in-Ok-true-clause-next
returns-in-Ok-true-clause-next c =
    let reads = rw c.in-Ok-true.field-0-test at (c.in-Ok-true.ensures.reads c.requires.untrimmed c.requires.ready) in (
      records_left-found c.args.reader.now _ _ c.requires reads,
      is_text-AllText _ (c.in-Ok-true.ensures.text c.requires.untrimmed),
    )

pub returns-in-Ok-false-clause-next : goal.returns-in-Ok-false-clause-next
returns-in-Ok-false-clause-next c =
    records_left-none c.args.reader.now c.read_record.new.self (fields_of c.read_record.new.row) c.requires
    (rw c.in-Ok-false.field-0-test at (c.in-Ok-false.ensures.reads c.requires.untrimmed c.requires.ready))

pub returns-in-Utf8-clause-next : goal.returns-in-Utf8-clause-next
returns-in-Utf8-clause-next c =
    let same : error_kind c.in-Err.error ≡ kind.Utf8 c.in-Utf8.pos c.in-Utf8.err = cc in
    records_left-not_text c.args.reader.now c.read_record.new.self c.in-Utf8.pos c.in-Utf8.err c.requires
    (rw same at (c.in-Err.ensures.why c.requires.untrimmed c.requires.ready))
