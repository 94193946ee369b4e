-- The faults of typing in words.
--
--   kind_text kind       what is wrong with a statement
--   fault_text fault     the number of the statement, and what is wrong with it
use Rattle.std.specs.Prelude.{ℕ, List, ◌++◌, codes}
use Rattle.std.specs.Fmt.{decimal}
use Rattle.myrial_types.specs.declared.faults.TypeKind.{TypeKind}
use Rattle.myrial_types.specs.declared.faults.TypeKind.TheVariants as kind
use Rattle.myrial_types.specs.declared.faults.TypeFault.{TypeFault}
use Rattle.myrial_types.specs.declared.faults.TypeFault.TheVariants as fault

-- what is wrong with a statement
abbrev pub kind_text : TypeKind → List ℕ
kind_text kind.UnknownRelation = codes "unknown relation"
kind_text kind.UnknownColumn = codes "unknown column"
kind_text kind.AmbiguousColumn = codes "ambiguous column"
kind_text kind.TypeMismatch = codes "type mismatch"
kind_text kind.Misplaced = codes "misplaced aggregate"
kind_text kind.Limit = codes "limit"
kind_text kind.LoadConflict = codes "load conflict"

-- the number of the statement, and what is wrong with it
abbrev pub fault_text : TypeFault → List ℕ
fault_text (fault.At statement kind) =
    codes "statement " ++ decimal statement ++ codes ": " ++ kind_text kind
fault_text fault.Memory = codes "out of memory"
