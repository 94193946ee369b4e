use Rattle.std.proofs.Common.{◌≡◌, map, take}
use Rattle.rel_base.specs.Keys.{File}
use Rattle.placement.specs.Layouts.{placed_file}
use Rattle.engine.proofs.dealing.dealt_files.Given as goal

abbrev pub invariant-loop-relation : goal.invariant-loop-relation
invariant-loop-relation l = l.made ≡ map (λ (f : File). (placed_file l.workers f.1).parts) (take l.relation-index l.files)
