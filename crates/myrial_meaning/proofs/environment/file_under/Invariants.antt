use Rattle.std.proofs.Common.{◌≡◌, find, drop}
use Rattle.rel_base.specs.Keys.{File, same_key}
use Rattle.myrial_meaning.proofs.environment.file_under.Given as goal

abbrev pub invariant-loop-file : goal.invariant-loop-file
invariant-loop-file l =
    find (λ (file : File). same_key file.0 l.key) l.files ≡ find (λ (file : File). same_key file.0 l.key) (drop l.file-index l.files)
