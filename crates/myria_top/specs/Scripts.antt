-- What the file of a script comes to: a script, or the answer that refuses it.
--
--   ScriptComesTo content step       the file comes to this step
use Rattle.std.specs.Prelude.{ℕ, ◌<◌, ◌≤◌, List, length, Result, Ok, Err}
use Rattle.std.specs.Str.{IsUtf8}
use Rattle.rel_io.specs.Outside.{Content}
use Rattle.rel_io.specs.Outside as outside
use Rattle.myrial_ast.specs.declared.statements.Stmt.{Stmt}
use Rattle.myrial_ast.specs.Trees.{StatementTree, trees_of}
use Rattle.myrial_lexer.specs.Tokens.{AreTokensOf, HasFault}
use Rattle.myrial_lexer.specs.declared.faults.LexWhat.{LexWhat}
use Rattle.myrial_lexer.specs.declared.kinds.Token.{Token}
use Rattle.myrial_parser.specs.Pieces.{IsScript, IsFirstFault, PieceFault, Syntax, TooMany}
use Rattle.myria_top.specs.declared.outcomes.Outcome.{Outcome}
use Rattle.myria_top.specs.declared.outcomes.Outcome.TheVariants as outcome
use Rattle.rel_base.specs.Limits.{most_script_bytes}
use Rattle.myria_top.specs.Verdicts.{Verdict, untold, refused, passes}

-- the answer to a fault of the statement with this number
abbrev pub fault_answer : ℕ → PieceFault → Outcome
fault_answer number Syntax = outcome.Syntax number
fault_answer number (TooMany what) = outcome.TooMany number what

-- what text that is short enough comes to: its first fault as tokens, that of its pieces, or a script
pub data TextComesTo (bytes : List ℕ) : Verdict (List StatementTree) → Type 0 where
  not_text : (IsUtf8 bytes → ⊥) → TextComesTo bytes (refused outcome.ScriptNotText)
  bad_token : (line : ℕ) (what : LexWhat) → HasFault bytes line what
      → TextComesTo bytes (refused (outcome.Lex line what))
  bad_piece : (tokens : List Token) (number : ℕ) (fault : PieceFault) → AreTokensOf bytes tokens
      → IsFirstFault bytes tokens number fault
      → TextComesTo bytes (refused (fault_answer number fault))
  a_script : (tokens : List Token) (script : List StatementTree) → AreTokensOf bytes tokens
      → IsScript bytes tokens script → TextComesTo bytes (passes script)

-- what the file of a script comes to
pub data ScriptComesTo : Content → Verdict (List StatementTree) → Type 0 where
  not_told : ScriptComesTo outside.untold untold
  no_script : ScriptComesTo outside.missing (refused outcome.NoScript)
  too_long : (bytes : List ℕ) → most_script_bytes < length bytes
      → ScriptComesTo (outside.there bytes) (refused outcome.ScriptTooLong)
  short : (bytes : List ℕ) (s : Verdict (List StatementTree)) → length bytes ≤ most_script_bytes
      → TextComesTo bytes s
      → ScriptComesTo (outside.there bytes) s

-- what was read, with the trees of its statements
abbrev pub trees_read : Result (List Stmt) Outcome → Result (List StatementTree) Outcome
trees_read (Ok statements) = Ok (trees_of statements)
trees_read (Err answer) = Err answer
