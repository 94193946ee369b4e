-- the files so far are of other names
use Rattle.std.proofs.Common.{◌≡◌, find, drop, map}
use Rattle.std.specs.List.{enumerate_from}
use Rattle.rel_base.specs.declared.names.Key.{Key}
use Rattle.myrial_ast.specs.Loads.{is_load_key}
use Rattle.myrial_types.specs.Resolving.{Meant, file_meant, files_meant}
use Rattle.myrial_types.proofs.names.loaded_from.Given as goal

abbrev pub invariant-loop-i : goal.invariant-loop-i
invariant-loop-i l =
    find (λ (p : Key × Meant). is_load_key l.name p.0) (files_meant l.files)
    ≡ find (λ (p : Key × Meant). is_load_key l.name p.0) (map file_meant (enumerate_from l.i (drop l.i l.files)))
