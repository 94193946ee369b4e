use Rattle.std.proofs.Common.{arith}
use Rattle.std.proofs.lemmas.Grind.{common_steps}
use Rattle.rel_io.proofs.folder_shelf.FolderShelfShelf.fetch.Goals as goal

pub returns-in-Err-Failed-clause-failed : goal.returns-in-Err-Failed-clause-failed
returns-in-Err-Failed-clause-failed g c = grind (arith, common_steps)

pub returns-in-Err-Failed-clause-after : goal.returns-in-Err-Failed-clause-after
returns-in-Err-Failed-clause-after g c = grind (arith, common_steps)
