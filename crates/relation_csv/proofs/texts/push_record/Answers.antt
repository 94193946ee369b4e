use Rattle.std.proofs.Common.{map}
use Rattle.std.proofs.lemmas.Result.{on_ok_weaker}
use Rattle.relation_csv.proofs.TextLemmas.{row_text-end}
use Rattle.relation_csv.proofs.texts.push_record.Goals as goal

pub returns-clause-ok : goal.returns-clause-ok
returns-clause-ok g c =
    on_ok_weaker c.end_record.result
    (row_text-end (map g.F.Field.bytes c.args.fields.now)
    c.args.into.now.items c.push_fields.new.into.items c.end_record.new.into.items c.len-before.result
    (cc) c.in_ok-push_fields.ensures.ok)
    c.end_record.ensures.ok
