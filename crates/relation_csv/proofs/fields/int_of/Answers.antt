use Rattle.std.proofs.Common.{◌∙◌}
use Rattle.relation_csv.proofs.IntLemmas.{int_of_field-ParsesSigned}
use Rattle.relation_csv.proofs.fields.int_of.Goals as goal

pub returns-in-None : goal.returns-in-None
returns-in-None c = c.ok.ensures.value ∙ int_of_field-ParsesSigned c.args.field.now c.parse.result c.parse.ensures.value.0
