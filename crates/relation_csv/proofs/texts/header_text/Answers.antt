use Rattle.std.proofs.Common.{rules}
use Rattle.relation_csv.specs.RecordTexts.{header_record}
use Rattle.relation_csv.proofs.texts.header_text.Goals as goal

pub returns-clause-ok : goal.returns-clause-ok
unfolding header_record
returns-clause-ok c = search rules
