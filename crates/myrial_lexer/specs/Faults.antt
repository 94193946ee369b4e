-- The texts of faults.
--
--   what_text what     what breaks the token rules, in words
--   fault_text fault   why a text has no tokens, in words
use Rattle.std.specs.Prelude.{ℕ, List, ◌++◌, codes}
use Rattle.std.specs.Fmt.{decimal}
use Rattle.myrial_lexer.specs.declared.faults.LexWhat.{LexWhat}
use Rattle.myrial_lexer.specs.declared.faults.LexWhat.TheVariants as what
use Rattle.myrial_lexer.specs.declared.faults.LexFault.{LexFault}
use Rattle.myrial_lexer.specs.declared.faults.LexFault.TheVariants as fault

-- what breaks the token rules, in words
abbrev pub what_text : LexWhat → List ℕ
what_text what.BadChar = codes "unexpected character"
what_text what.OpenString = codes "string without end"
what_text what.NumberTooLarge = codes "number too large"

-- why a text has no tokens, in words
abbrev pub fault_text : LexFault → List ℕ
fault_text fault.NotText = codes "script is not UTF-8"
fault_text (fault.At line what) = codes "line " ++ decimal line ++ codes ": " ++ what_text what
fault_text fault.Memory = codes "out of memory"
