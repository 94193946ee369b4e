use Rattle.std.proofs.Common.{◌≡◌, ◌∙◌, drop}
use Rattle.csv.specs.Reading.{strip_bom}
use Rattle.csv.specs.declared.parser.State.TheVariants as state
use Rattle.relation_csv.specs.Files.{records_of_bytes}
use Rattle.relation_csv.specs.inner.RecordsLeft.{records_after}
use Rattle.relation_csv.proofs.RangeLemmas.{rows_found}
use Rattle.relation_csv.proofs.jobs.plain_rows_in_jobs.Goals as goal

pub returns : goal.returns
returns g c =
    let is : c.in-Ok.text.now ≡ strip_bom c.args.bytes.now = c.in-Ok.ensures.cases.0 ∙ c.without_mark.ensures in
    let left : drop c.args.skip (records_of_bytes c.args.bytes.now) ≡ records_after state.StartRecord c.in-Some.text.now =
    rw is at c.in-Some.ensures in
    rows_found c.args.schema.now _ c.in-Some.text.now c.in_ok-ranges.ranges.items c.in_ok-parts.parts.items
    c.put_together.result left c.in_ok-ranges.ensures c.in_ok-parts.ensures.len c.in_ok-parts.ensures.each
    c.put_together.ensures
