use Rattle.std.proofs.Common.{◌∙◌, sym}
use Rattle.relation_csv.proofs.RangeLemmas.{IsPlain-none, ReadsRange-from}
use Rattle.relation_csv.proofs.jobs.rows_of_range.Goals as goal

pub returns : goal.returns
returns c =
    let plain = IsPlain-none c.args.range.now c.as_bytes.result.now c.memchr2.result c.as_bytes.ensures.value
    c.memchr2.ensures (sym c.is_some.ensures ∙ c.if-is_some.false) in
    ReadsRange-from c.args.schema.now c.args.range.now c.rows_of_lines.result plain c.rows_of_lines.ensures
