use Rattle.std.proofs.Common.{rules}
use Rattle.relation_csv.specs.RecordTexts.{row_record}
use Rattle.relation_csv.proofs.texts.row_text.Goals as goal

pub returns-clause-ok : goal.returns-clause-ok
unfolding row_record
returns-clause-ok c = search rules
