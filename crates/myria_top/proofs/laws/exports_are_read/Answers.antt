use Rattle.myria_top.proofs.ExportLemmas.{exports_are_read}
use Rattle.myria_top.proofs.laws.exports_are_read.Goals as goal

pub returns : goal.returns
returns c = exports_are_read c.steps_are_of_the_files.ensures
