use Rattle.std.proofs.Common.{◌≡◌, ◌∙◌, drop}
use Rattle.csv.specs.Reading.{strip_bom}
use Rattle.csv.specs.declared.parser.State.TheVariants as state
use Rattle.relation_csv.specs.Files.{records_of_bytes}
use Rattle.relation_csv.specs.inner.RecordsLeft.{records_after}
use Rattle.relation_csv.proofs.plain.plain_rows.Goals as goal

pub returns : goal.returns
returns c =
    let is : c.in-Ok.text.now ≡ strip_bom c.args.bytes.now = c.in-Ok.ensures.cases.0 ∙ c.without_mark.ensures in
    let left : drop c.args.skip (records_of_bytes c.args.bytes.now) ≡ records_after state.StartRecord c.in-Some.text.now =
    rw is at c.in-Some.ensures in
    rw left c.rows_of_lines.ensures
