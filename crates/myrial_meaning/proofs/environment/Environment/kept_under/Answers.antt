use Rattle.std.proofs.Common.{◌∙◌}
use Rattle.myrial_meaning.proofs.EnvironmentLemmas.{kept_under-file, kept_under-stored}
use Rattle.myrial_meaning.proofs.environment.Environment.kept_under.Goals as goal

pub returns-in-Some : goal.returns-in-Some
returns-in-Some c = kept_under-stored c.args.files.now c.args.self.now c.args.key.now c.in-Some.relation.now c.in-Some.ensures

pub returns-in-None : goal.returns-in-None
returns-in-None c = c.file_under.ensures ∙ kept_under-file c.args.files.now c.args.self.now c.args.key.now c.in-None.ensures
