-- Why a file is no relation.
--
--   fault_text fault     the fault in words
use Rattle.std.specs.Prelude.{ℕ, List, ◌++◌, codes}
use Rattle.std.specs.Fmt.{decimal}
use Rattle.relation_csv.specs.declared.faults.RelFault.{RelFault}
use Rattle.relation_csv.specs.declared.faults.RelFault.TheVariants as fault

-- the fault in words, with the numbers of its record and of its column
abbrev pub fault_text : RelFault → List ℕ
fault_text fault.NoHeader = codes "no header"
fault_text (fault.NotText nth) = codes "record " ++ decimal nth ++ codes " is not UTF-8"
fault_text fault.TooManyColumns = codes "too many columns"
fault_text (fault.BadHeader field) = codes "bad header field " ++ decimal field
fault_text (fault.FieldCount nth) =
    codes "record " ++ decimal nth ++ codes " has a wrong number of fields"
fault_text (fault.BadInt nth column) =
    codes "record " ++ decimal nth ++ codes " column " ++ decimal column ++ codes " is not an int"
fault_text (fault.BadBool nth column) =
    codes "record " ++ decimal nth ++ codes " column " ++ decimal column
    ++ codes " is not a boolean"
fault_text fault.TooManyRows = codes "too many rows"
fault_text fault.Memory = codes "out of memory"
