use Rattle.std.proofs.Common.{◌+◌, arith}
use Rattle.relation_csv.specs.declared.faults.RelFault.TheVariants as fault
use Rattle.relation_csv.specs.inner.RecordsLeft.{records_left}
use Rattle.relation_csv.proofs.ReadAsLemmas.{IsReadAs-Ok, IsReadAs-part}
use Rattle.relation_csv.proofs.RowLemmas.{row_of_record-not_text, row_of_record-too_many}
use Rattle.relation_csv.proofs.RowsLemmas.{HasRows-push, rows_of_records-fault}
use Rattle.relation_csv.proofs.files.rows_of.Goals as goal
use Rattle.relation_csv.proofs.files.rows_of.Goals.{in_default-via-in-NotText+else-nth-le-MOST_ROWS, in_default-via-in-Record+else-nth-le-MOST_ROWS-2}

pub returns-in_default : goal.returns-in_default
returns-in_default c = λ short.
    let nth = c.len-nth.result + 1 in
    let schema = c.args.schema.now in
    let left = records_left c.rows.reader in
    let found = c.in_ok-read_next.ensures.next in
    elim c.in_default.branch [
      | in_default-via-in-NotText+else-nth-le-MOST_ROWS w ↦
          let (fields, rest, next, not_text) = rw w.in-NotText.is at found in
          rows_of_records-fault schema _ left c.rows.rows c.rows.invariant.read fields rest fault.TooManyRows nth next
          (omega arith) (row_of_record-too_many schema nth fields (omega arith))
      | in_default-via-in-Record+else-nth-le-MOST_ROWS-2 w ↦
          let (next, text) = rw w.in-Record.is at found in
          rows_of_records-fault schema _ left c.rows.rows c.rows.invariant.read _ _ fault.TooManyRows nth next
          (omega arith) (row_of_record-too_many schema nth _ (omega arith))
    ]

pub returns-in-NotText : goal.returns-in-NotText
returns-in-NotText c = λ short.
    let (fields, rest, left, not_text) = rw c.in-NotText.is at c.in_ok-read_next.ensures.next in
    let nth = c.len-nth.result + 1 in
    rows_of_records-fault c.args.schema.now _ (records_left c.rows.reader) c.rows.rows c.rows.invariant.read fields rest
    (fault.NotText nth) nth left (omega arith) (row_of_record-not_text c.args.schema.now nth fields (omega arith) not_text)

pub returns-in_err-row-in-Record : goal.returns-in_err-row-in-Record
returns-in_err-row-in-Record c =
    let (left, text) = rw c.in-Record.is at c.in_ok-read_next.ensures.next in
    let nth = c.len-nth.result + 1 in
    IsReadAs-part _ c.in_err-row-in-Record.field-0.0 _ _ c.from_residual-in_err-row-in-Record.ensures.1
    c.in_err-row-in-Record.ensures
    (λ e. rows_of_records-fault c.args.schema.now _ (records_left c.rows.reader) c.rows.rows c.rows.invariant.read _ _
    c.in_err-row-in-Record.field-0.0 nth left (omega arith) e)

pub rows-preserved : goal.rows-preserved
rows-preserved c =
    let (left, text) = rw c.in-Record.is at c.in_ok-read_next.ensures.next in
    let nth = c.len-nth.result + 1 in
    record {
      steady = c.in_ok-read_next.ensures.steady;
      read = rw c.in_ok-push-in-Record.ensures.ok (HasRows-push c.args.schema.now _ (records_left c.rows.reader)
          c.rows.rows c.rows.invariant.read _ _ c.in_ok-row-in-Record.row nth left (omega arith) (omega arith)
          (IsReadAs-Ok _ _ c.in_ok-row-in-Record.ensures));
    }
