-- the files so far are of other keys
use Rattle.std.proofs.Common.{◌≡◌, find, drop, map}
use Rattle.std.specs.List.{enumerate_from}
use Rattle.rel_base.specs.Keys.{same_key}
use Rattle.rel_base.specs.declared.names.Key.{Key}
use Rattle.myrial_types.specs.Resolving.{Meant, file_meant, files_meant}
use Rattle.myrial_types.proofs.names.file_under.Given as goal

abbrev pub invariant-loop-i : goal.invariant-loop-i
invariant-loop-i l =
    find (λ (p : Key × Meant). same_key p.0 l.key) (files_meant l.files)
    ≡ find (λ (p : Key × Meant). same_key p.0 l.key) (map file_meant (enumerate_from l.i (drop l.i l.files)))
