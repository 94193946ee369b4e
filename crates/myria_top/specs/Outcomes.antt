-- The answers of a run, as the program's user sees them.
--
--   status_of a        the exit status
--   line_of name a     the line on standard error, by the name that is told; none after `Done`
use Rattle.std.specs.Prelude.{ℕ, List, [], ◌++◌, codes}
use Rattle.std.specs.Borrow.{Bor}
use Rattle.std.specs.Fmt.{decimal}
use Rattle.rel_base.specs.declared.names.Key.{Key}
use Rattle.relation_csv.specs.Faults.{fault_text}
use Rattle.myrial_lexer.specs.declared.faults.LexWhat.{LexWhat}
use Rattle.myrial_lexer.specs.declared.faults.LexWhat.TheVariants as lexical
use Rattle.myrial_parser.specs.declared.faults.What.{What}
use Rattle.myrial_parser.specs.declared.faults.What.TheVariants as many
use Rattle.myrial_types.specs.Faults.{kind_text}
use Rattle.myria_top.specs.FileNames.{key_words}
use Rattle.myria_top.specs.declared.outcomes.Outcome.{Outcome}
use Rattle.myria_top.specs.declared.outcomes.Outcome.TheVariants as outcome

-- the exit status of an answer
abbrev pub status_of : Outcome → ℕ
status_of (outcome.Done receipts) = 0
status_of outcome.Usage = 1
status_of outcome.NoScript = 2
status_of outcome.ScriptTooLong = 2
status_of outcome.ScriptNotText = 2
status_of (outcome.Lex line what) = 3
status_of (outcome.Syntax statement) = 4
status_of (outcome.TooMany statement what) = 4
status_of (outcome.Typing statement kind) = 5
status_of (outcome.NoRelation key) = 6
status_of (outcome.RelTooLong key) = 7
status_of (outcome.BadRelation key fault) = 7
status_of (outcome.TooManyRows statement) = 8
status_of (outcome.Overflow statement) = 9
status_of (outcome.AggregateOverflow statement) = 10
status_of (outcome.ReadFault name) = 11
status_of outcome.WriteFault = 12
status_of outcome.Memory = 13
status_of outcome.NoPlan = 15
status_of outcome.PlanTooLong = 15
status_of outcome.BadPlan = 16
status_of (outcome.PlanWorkers workers) = 17
status_of (outcome.PlanMisfit statement) = 17

-- what breaks the token rules, in words
abbrev pub lexical_words : LexWhat → List ℕ
lexical_words lexical.BadChar = codes "unexpected character"
lexical_words lexical.OpenString = codes "string without end"
lexical_words lexical.NumberTooLarge = codes "number too large"

-- what there are too many of, in words
abbrev pub many_words : What → List ℕ
many_words many.Statements = codes "statements"
many_words many.Tokens = codes "tokens"
many_words many.Nesting = codes "parentheses"
many_words many.FromItems = codes "items"
many_words many.Columns = codes "columns"

-- the line of a message
abbrev pub line_with : List ℕ → List ℕ
line_with message = codes "myria: " ++ message ++ codes "\n"

-- the message of a fault on a line of the script, and of a fault of a statement
abbrev pub on_line : ℕ → List ℕ → List ℕ
on_line line words = codes "line " ++ decimal line ++ codes ": " ++ words

abbrev pub of_statement : ℕ → List ℕ → List ℕ
of_statement statement words = codes "statement " ++ decimal statement ++ codes ": " ++ words

-- the message of a fault of a relation's file
abbrev pub of_relation : Key → List ℕ → List ℕ
of_relation key words = codes "relation " ++ key_words key ++ codes ": " ++ words

abbrev pub lexical_line : ℕ → List ℕ → List ℕ
lexical_line line words = line_with (on_line line words)

abbrev pub statement_line : ℕ → List ℕ → List ℕ
statement_line statement words = line_with (of_statement statement words)

-- words that are given in five pieces
abbrev pub joined_words : Bor (List ℕ) × Bor (List ℕ) × Bor (List ℕ) × Bor (List ℕ) × Bor (List ℕ)
    → List ℕ
joined_words words = words.0.now ++ words.1.now ++ words.2.now ++ words.3.now ++ words.4.now

-- the line of a missing relation
abbrev pub missing_line : Key → List ℕ
missing_line key = line_with (codes "no relation " ++ key_words key)

abbrev pub relation_line : Key → List ℕ → List ℕ
relation_line key words = line_with (of_relation key words)

-- the lines of a plan for so many workers, and of one that doesn't fit a statement
abbrev pub workers_line : ℕ → List ℕ
workers_line workers = line_with (codes "plan is for " ++ decimal workers ++ codes " workers")

abbrev pub misfit_line : ℕ → List ℕ
misfit_line statement = line_with (codes "plan does not fit statement " ++ decimal statement)

-- what the answer says, in words
abbrev pub message_of : List ℕ → Outcome → List ℕ
message_of name (outcome.Done receipts) = []
message_of name outcome.Usage = codes "usage: myria [options] SCRIPT"
message_of name outcome.NoScript = codes "no script " ++ name
message_of name outcome.ScriptTooLong = codes "script too long"
message_of name outcome.ScriptNotText = codes "script is not UTF-8"
message_of name (outcome.Lex line what) = on_line line (lexical_words what)
message_of name (outcome.Syntax statement) = of_statement statement (codes "syntax error")
message_of name (outcome.TooMany statement what) =
    of_statement statement (codes "too many " ++ many_words what)
message_of name (outcome.Typing statement kind) = of_statement statement (kind_text kind)
message_of name (outcome.NoRelation key) = codes "no relation " ++ key_words key
message_of name (outcome.RelTooLong key) = of_relation key (codes "too long")
message_of name (outcome.BadRelation key fault) = of_relation key (fault_text fault)
message_of name (outcome.TooManyRows statement) = of_statement statement (codes "too many rows")
message_of name (outcome.Overflow statement) = of_statement statement (codes "overflow")
message_of name (outcome.AggregateOverflow statement) =
    of_statement statement (codes "aggregate overflow")
message_of given (outcome.ReadFault name) = codes "cannot read " ++ name
message_of name outcome.WriteFault = codes "cannot write"
message_of name outcome.Memory = codes "out of memory"
message_of name outcome.NoPlan = codes "no plan " ++ name
message_of name outcome.PlanTooLong = codes "plan too long"
message_of name outcome.BadPlan = codes "bad plan"
message_of name (outcome.PlanWorkers workers) =
    codes "plan is for " ++ decimal workers ++ codes " workers"
message_of name (outcome.PlanMisfit statement) =
    codes "plan does not fit statement " ++ decimal statement

-- the line on standard error
abbrev pub line_of : List ℕ → Outcome → List ℕ
line_of name (outcome.Done receipts) = []
line_of name answer = line_with (message_of name answer)
