use Rattle.std.proofs.Common.{◌∙◌, refl}
use Rattle.relation_csv.proofs.PlainLemmas.{records_after-line}
use Rattle.relation_csv.proofs.plain.behind_record.Goals as goal

pub returns-then-not-more : goal.returns-then-not-more
returns-then-not-more c =
    let (done, so_far) = c.fields.invariant.reads in
    let ends = rw c.if-not-more.true at (c.in_ok-more.ensures.begins done) in
    rw (records_after-line c.args.line.now _ c.in_ok-more.rest.now c.requires.line c.requires.some (so_far ∙ ends)) refl
