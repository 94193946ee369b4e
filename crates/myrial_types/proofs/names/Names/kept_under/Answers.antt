use Rattle.std.proofs.Common.{◌∙◌}
use Rattle.myrial_types.specs.Resolving.{files_meant}
use Rattle.myrial_types.proofs.NamesLemmas.{kept_under-file, kept_under-stored}
use Rattle.myrial_types.proofs.names.Names.kept_under.Goals as goal

pub returns-in-Some : goal.returns-in-Some
returns-in-Some c = kept_under-stored (files_meant c.args.files.now) c.args.self.now c.args.key.now c.in-Some.meant c.in-Some.ensures

pub returns-in-None : goal.returns-in-None
returns-in-None c = c.file_under.ensures ∙ kept_under-file (files_meant c.args.files.now) c.args.self.now c.args.key.now c.in-None.ensures
