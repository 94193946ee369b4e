-- The texts of faults.
--
--   what_text what     what a piece has too many of, in words
--   fault_text fault   why tokens are no script, in words
use Rattle.std.specs.Prelude.{ℕ, List, ◌++◌, codes}
use Rattle.std.specs.Fmt.{decimal}
use Rattle.myrial_parser.specs.declared.faults.What.{What}
use Rattle.myrial_parser.specs.declared.faults.What.TheVariants as what
use Rattle.myrial_parser.specs.declared.faults.ParseFault.{ParseFault}
use Rattle.myrial_parser.specs.declared.faults.ParseFault.TheVariants as fault

-- what a piece has too many of, in words
abbrev pub what_text : What → List ℕ
what_text what.Statements = codes "statements"
what_text what.Tokens = codes "tokens"
what_text what.Nesting = codes "parentheses"
what_text what.FromItems = codes "items"
what_text what.Columns = codes "columns"

-- why tokens are no script, in words
abbrev pub fault_text : ParseFault → List ℕ
fault_text (fault.Syntax statement) =
    codes "statement " ++ decimal statement ++ codes ": syntax error"
fault_text (fault.TooMany statement what) =
    codes "statement " ++ decimal statement ++ codes ": too many " ++ what_text what
fault_text fault.Memory = codes "out of memory"
