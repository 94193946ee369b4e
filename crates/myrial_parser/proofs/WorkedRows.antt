-- Worked cases of the grammar, each proved by computing.
use Rattle.std.proofs.Common.{◌≡◌, ℕ, pos, neg_ℤ, true, false, List, [], ◌∷◌, Some, None, refl, sym, subst, ◌∙◌, append-nil, codes}
use Rattle.std.specs.Fmt.{digits}
use Rattle.rel_base.specs.declared.values.Value.TheVariants as value
use Rattle.rel_base.specs.declared.values.ColType.TheVariants as type
use Rattle.myrial_ast.specs.declared.operators.AggOp.TheVariants as agg
use Rattle.myrial_ast.specs.declared.operators.BinOp.TheVariants as op
use Rattle.myrial_ast.specs.declared.expressions.ColRef.TheVariants as column
use Rattle.myrial_ast.specs.declared.relations.Operand.TheVariants as source
use Rattle.myrial_ast.specs.Trees.{Tree, Lit, Col, Not, Neg, Bin, Agg, AggAll, AllOf, One, Copy, Empty, Distinct, UnionAll, Diff, From, StatementTree, Assign, Store}
use Rattle.myrial_lexer.specs.declared.kinds.Token.{Token}
use Rattle.myrial_lexer.specs.declared.kinds.TokenKind.TheVariants as kind
use Rattle.myrial_lexer.specs.declared.kinds.Sign.TheVariants as sign
use Rattle.myrial_parser.specs.declared.terminals.Keyword.TheVariants as keyword
use Rattle.myrial_parser.specs.declared.faults.What.TheVariants as what
use Rattle.myrial_parser.specs.declared.faults.ParseFault.TheVariants as fault
use Rattle.myrial_parser.specs.Faults.{fault_text}
use Rattle.myrial_parser.specs.Symbols as s
use Rattle.myrial_parser.specs.Terminals.{Terminal, Fixed, Name, Number, Quoted, reserved}
use Rattle.myrial_parser.specs.Grammar.{IsExpression, Reads, type_of}
use Rattle.myrial_parser.specs.Pieces.{pieces_of, columns_of}
use Rattle.myrial_parser.specs.inner.Descent as d
use Rattle.myrial_parser.proofs.ParserLemmas.{same_rest}
use Rattle.myrial_parser.proofs.RelationSound.{whole_expression-sound}
use Rattle.myrial_parser.proofs.RelationComplete.{whole_expression-complete}
use Rattle.myrial_parser.proofs.StatementLemmas.{statement-sound, statement-complete}

-- the names a, b and c as terminals and as columns
abbrev a : Terminal
a = Name (codes "a")

abbrev b : Terminal
b = Name (codes "b")

abbrev c : Terminal
c = Name (codes "c")

abbrev col : List ℕ → Tree
col name = Col (column.ByName name)

abbrev int : ℕ → Tree
int n = Lit (value.Int (pos n))

is_read : (ts : List Terminal) (e : Tree) → d.whole_expression ts ≡ Some (e, []) → IsExpression ts e
is_read ts e h =
    let r = whole_expression-sound.reads ts e [] h in
    subst (λ (us : List Terminal). IsExpression us e) (sym (r.split ∙ append-nil r.front)) r.is

-- `1 - 2 - 3` is `(1 - 2) - 3`
pub minus_groups_from_the_left : IsExpression (Number 1 ∷ Fixed s.Minus ∷ Number 2 ∷ Fixed s.Minus ∷ Number 3 ∷ []) (Bin op.Sub (Bin op.Sub (int 1) (int 2)) (int 3))
unfolding d.whole_expression d.expression d.disjunction d.conjunction d.negation d.comparison d.sum d.product d.signed d.primary d.same_symbol
minus_groups_from_the_left = is_read _ _ refl

-- `- - 5` is the minus of the literal -5
pub last_minus_is_of_the_literal : IsExpression (Fixed s.Minus ∷ Fixed s.Minus ∷ Number 5 ∷ []) (Neg (Lit (value.Int (neg_ℤ (pos 5)))))
unfolding d.whole_expression d.expression d.disjunction d.conjunction d.negation d.comparison d.sum d.product d.signed d.primary d.same_symbol
last_minus_is_of_the_literal = is_read _ _ refl

-- `-(5)` is the minus of 5
pub minus_of_parentheses : IsExpression (Fixed s.Minus ∷ Fixed s.OpenParen ∷ Number 5 ∷ Fixed s.CloseParen ∷ []) (Neg (int 5))
unfolding d.whole_expression d.expression d.disjunction d.conjunction d.negation d.comparison d.sum d.product d.signed d.primary d.same_symbol
minus_of_parentheses = is_read _ _ refl

-- `-a * 2` is `(-a) * 2`
pub minus_binds_tighter : IsExpression (Fixed s.Minus ∷ a ∷ Fixed s.Star ∷ Number 2 ∷ []) (Bin op.Mul (Neg (col (codes "a"))) (int 2))
unfolding d.whole_expression d.expression d.disjunction d.conjunction d.negation d.comparison d.sum d.product d.signed d.primary d.same_symbol
minus_binds_tighter = is_read _ _ refl

-- `not a = b and c` is `(not (a = b)) and c`
pub not_binds_looser_than_a_comparison : IsExpression (Fixed s.Not ∷ a ∷ Fixed s.Eq ∷ b ∷ Fixed s.And ∷ c ∷ []) (Bin op.And (Not (Bin op.Eq (col (codes "a")) (col (codes "b")))) (col (codes "c")))
unfolding d.whole_expression d.expression d.disjunction d.conjunction d.negation d.comparison d.sum d.product d.signed d.primary d.same_symbol
not_binds_looser_than_a_comparison = is_read _ _ refl

-- `a or b and c` is `a or (b and c)`
pub and_binds_tighter_than_or : IsExpression (a ∷ Fixed s.Or ∷ b ∷ Fixed s.And ∷ c ∷ []) (Bin op.Or (col (codes "a")) (Bin op.And (col (codes "b")) (col (codes "c"))))
unfolding d.whole_expression d.expression d.disjunction d.conjunction d.negation d.comparison d.sum d.product d.signed d.primary d.same_symbol
and_binds_tighter_than_or = is_read _ _ refl

-- `count(*)` and `countall()` are one tree
pub count_of_a_star : IsExpression (Fixed s.Count ∷ Fixed s.OpenParen ∷ Fixed s.Star ∷ Fixed s.CloseParen ∷ []) (AggAll agg.CountAll)
unfolding d.whole_expression d.expression d.disjunction d.conjunction d.negation d.comparison d.sum d.product d.signed d.primary d.same_symbol
count_of_a_star = is_read _ _ refl

-- `countall()` is the same tree
pub count_of_nothing : IsExpression (Fixed s.CountAll ∷ Fixed s.OpenParen ∷ Fixed s.CloseParen ∷ []) (AggAll agg.CountAll)
unfolding d.whole_expression d.expression d.disjunction d.conjunction d.negation d.comparison d.sum d.product d.signed d.primary d.same_symbol
count_of_nothing = is_read _ _ refl

-- `count(a)` counts an argument
pub count_of_an_argument : IsExpression (Fixed s.Count ∷ Fixed s.OpenParen ∷ a ∷ Fixed s.CloseParen ∷ []) (Agg agg.Count (col (codes "a")))
unfolding d.whole_expression d.expression d.disjunction d.conjunction d.negation d.comparison d.sum d.product d.signed d.primary d.same_symbol
count_of_an_argument = is_read _ _ refl

-- `min(max(a))` is read, though it has no meaning
pub aggregates_nest : IsExpression (Fixed s.Min ∷ Fixed s.OpenParen ∷ Fixed s.Max ∷ Fixed s.OpenParen ∷ a ∷ Fixed s.CloseParen ∷ Fixed s.CloseParen ∷ []) (Agg agg.Min (Agg agg.Max (col (codes "a"))))
unfolding d.whole_expression d.expression d.disjunction d.conjunction d.negation d.comparison d.sum d.product d.signed d.primary d.same_symbol
aggregates_nest = is_read _ _ refl

-- `(a or b) and c` is grouped by its parentheses
pub parentheses_leave_no_node : IsExpression (Fixed s.OpenParen ∷ a ∷ Fixed s.Or ∷ b ∷ Fixed s.CloseParen ∷ Fixed s.And ∷ c ∷ []) (Bin op.And (Bin op.Or (col (codes "a")) (col (codes "b"))) (col (codes "c")))
unfolding d.whole_expression d.expression d.disjunction d.conjunction d.negation d.comparison d.sum d.product d.signed d.primary d.same_symbol
parentheses_leave_no_node = is_read _ _ refl

-- `2 + a * b` is `2 + (a * b)`
pub product_binds_tighter_than_sum : IsExpression (Number 2 ∷ Fixed s.Plus ∷ a ∷ Fixed s.Star ∷ b ∷ []) (Bin op.Add (int 2) (Bin op.Mul (col (codes "a")) (col (codes "b"))))
unfolding d.whole_expression d.expression d.disjunction d.conjunction d.negation d.comparison d.sum d.product d.signed d.primary d.same_symbol
product_binds_tighter_than_sum = is_read _ _ refl

-- `a.$2 <> $0` is of column 2 of the item a and of column 0
pub columns_by_place : IsExpression (a ∷ Fixed s.Dot ∷ Fixed s.Dollar ∷ Number 2 ∷ Fixed s.Ne ∷ Fixed s.Dollar ∷ Number 0 ∷ []) (Bin op.Ne (Col (column.OfPlace (codes "a") 2)) (Col (column.ByPlace 0)))
unfolding d.whole_expression d.expression d.disjunction d.conjunction d.negation d.comparison d.sum d.product d.signed d.primary d.same_symbol
columns_by_place = is_read _ _ refl

-- `a < b`
pub sign_of_less : IsExpression (a ∷ Fixed s.Lt ∷ b ∷ []) (Bin op.Lt (col (codes "a")) (col (codes "b")))
unfolding d.whole_expression d.expression d.disjunction d.conjunction d.negation d.comparison d.sum d.product d.signed d.primary d.same_symbol
sign_of_less = is_read _ _ refl

-- `a <= b`
pub sign_of_less_or_equal : IsExpression (a ∷ Fixed s.Le ∷ b ∷ []) (Bin op.Le (col (codes "a")) (col (codes "b")))
unfolding d.whole_expression d.expression d.disjunction d.conjunction d.negation d.comparison d.sum d.product d.signed d.primary d.same_symbol
sign_of_less_or_equal = is_read _ _ refl

-- `a > b`
pub sign_of_greater : IsExpression (a ∷ Fixed s.Gt ∷ b ∷ []) (Bin op.Gt (col (codes "a")) (col (codes "b")))
unfolding d.whole_expression d.expression d.disjunction d.conjunction d.negation d.comparison d.sum d.product d.signed d.primary d.same_symbol
sign_of_greater = is_read _ _ refl

-- `a >= b`
pub sign_of_greater_or_equal : IsExpression (a ∷ Fixed s.Ge ∷ b ∷ []) (Bin op.Ge (col (codes "a")) (col (codes "b")))
unfolding d.whole_expression d.expression d.disjunction d.conjunction d.negation d.comparison d.sum d.product d.signed d.primary d.same_symbol
sign_of_greater_or_equal = is_read _ _ refl

-- `a = b = c` is no expression: it is read up to the second sign
pub two_comparisons : (e : Tree) → IsExpression (a ∷ Fixed s.Eq ∷ b ∷ Fixed s.Eq ∷ c ∷ []) e → ⊥
unfolding d.whole_expression d.expression d.disjunction d.conjunction d.negation d.comparison d.sum d.product d.signed d.primary d.same_symbol
two_comparisons e h = let some = whole_expression-complete.reads _ e [] h refl in let rest = same_rest _ e (Fixed s.Eq ∷ c ∷ []) [] some in cc

-- `1.5` is no expression
pub number_with_a_dot : (e : Tree) → IsExpression (Number 1 ∷ Fixed s.Dot ∷ Number 5 ∷ []) e → ⊥
unfolding d.whole_expression d.expression d.disjunction d.conjunction d.negation d.comparison d.sum d.product d.signed d.primary d.same_symbol
number_with_a_dot e h = let some = whole_expression-complete.reads _ e [] h refl in let rest = same_rest _ e (Fixed s.Dot ∷ Number 5 ∷ []) [] some in cc

-- ---- statements

is_statement : (ts : List Terminal) (t : StatementTree) → d.statement ts ≡ Some (t, []) → Reads ts t
is_statement ts t h = statement-sound ts t [] h

-- `c = scan(a:b)` copies the relation b of the program a
pub scan_of_a_program : Reads (c ∷ Fixed s.Eq ∷ Fixed s.Scan ∷ Fixed s.OpenParen ∷ a ∷ Fixed s.Colon ∷ b ∷ Fixed s.CloseParen ∷ [])
    (Assign (codes "c") (Copy (source.Scan (record { user = codes "public"; program = codes "a"; name = codes "b" }))))
unfolding d.statement d.assignment d.relation d.sees_select d.source d.key d.same_symbol
scan_of_a_program = is_statement _ _ refl

-- `store(a, b)` stores under the program and the user of ad-hoc queries
pub store_of_a_name : Reads (Fixed s.Store ∷ Fixed s.OpenParen ∷ a ∷ Fixed s.Comma ∷ b ∷ Fixed s.CloseParen ∷ [])
    (Store (codes "a") (record { user = codes "public"; program = codes "adhoc"; name = codes "b" }))
unfolding d.statement d.store d.key d.same_symbol
store_of_a_name = is_statement _ _ refl

-- `c = [from a, b as c emit a.*, b]`: an item has its own name where none is given, and so has an emitted column
pub comprehension_of_two_items : Reads (c ∷ Fixed s.Eq ∷ Fixed s.OpenBracket ∷ Fixed s.From ∷ a ∷ Fixed s.Comma ∷ b ∷ Fixed s.As ∷ c ∷ Fixed s.Emit ∷ a ∷ Fixed s.Dot ∷ Fixed s.Star ∷ Fixed s.Comma ∷ b ∷ Fixed s.CloseBracket ∷ [])
    (Assign (codes "c") (From (record { source = source.Named (codes "a"); alias = codes "a" } ∷ record { source = source.Named (codes "b"); alias = codes "c" } ∷ []) None
    (AllOf (codes "a") ∷ One (col (codes "b")) None ∷ [])))
unfolding d.statement d.assignment d.relation d.comprehension d.bracketed_emits d.item d.source d.condition d.emit d.emitted d.emitted_alias d.whole_expression d.expression d.disjunction d.conjunction d.negation d.comparison d.sum d.product d.signed d.primary d.same_symbol
comprehension_of_two_items = is_statement _ _ refl

-- `c = empty(a:long, b:STRING)`: type words stand in any case
pub empty_of_two_columns : Reads (c ∷ Fixed s.Eq ∷ Fixed s.Empty ∷ Fixed s.OpenParen ∷ a ∷ Fixed s.Colon ∷ Name (codes "long") ∷ Fixed s.Comma ∷ b ∷ Fixed s.Colon ∷ Name (codes "STRING") ∷ Fixed s.CloseParen ∷ [])
    (Assign (codes "c") (Empty (record { name = codes "a"; kind = type.Int } ∷ record { name = codes "b"; kind = type.Str } ∷ [])))
unfolding d.statement d.assignment d.relation d.sees_select d.argument d.source d.two_sources d.column_definition d.key d.same_symbol
empty_of_two_columns = is_statement _ _ refl

-- `c = distinct(a)`
pub distinct_of_a_name : Reads (c ∷ Fixed s.Eq ∷ Fixed s.Distinct ∷ Fixed s.OpenParen ∷ a ∷ Fixed s.CloseParen ∷ [])
    (Assign (codes "c") (Distinct (source.Named (codes "a"))))
unfolding d.statement d.assignment d.relation d.sees_select d.argument d.source d.two_sources d.column_definition d.key d.same_symbol
distinct_of_a_name = is_statement _ _ refl

-- `c = unionall(a, b)` has the first operand first
pub union_of_both : Reads (c ∷ Fixed s.Eq ∷ Fixed s.UnionAll ∷ Fixed s.OpenParen ∷ a ∷ Fixed s.Comma ∷ b ∷ Fixed s.CloseParen ∷ [])
    (Assign (codes "c") (UnionAll (source.Named (codes "a")) (source.Named (codes "b"))))
unfolding d.statement d.assignment d.relation d.sees_select d.argument d.source d.two_sources d.column_definition d.key d.same_symbol
union_of_both = is_statement _ _ refl

-- `c = diff(a, b)` takes the second operand from the first
pub difference_of_two : Reads (c ∷ Fixed s.Eq ∷ Fixed s.Diff ∷ Fixed s.OpenParen ∷ a ∷ Fixed s.Comma ∷ b ∷ Fixed s.CloseParen ∷ [])
    (Assign (codes "c") (Diff (source.Named (codes "a")) (source.Named (codes "b"))))
unfolding d.statement d.assignment d.relation d.sees_select d.argument d.source d.two_sources d.column_definition d.key d.same_symbol
difference_of_two = is_statement _ _ refl

-- `c = empty()` is no statement
pub empty_of_no_column : (t : StatementTree) → Reads (c ∷ Fixed s.Eq ∷ Fixed s.Empty ∷ Fixed s.OpenParen ∷ Fixed s.CloseParen ∷ []) t → ⊥
unfolding d.statement d.assignment d.relation d.sees_select d.argument d.source d.two_sources d.column_definition d.key d.same_symbol
empty_of_no_column t h = let some = statement-complete _ t h in cc

-- `c = SELECT b FROM a as c where b` is `c = [from a as c where b emit b]`
pub selected_comprehension : Reads (c ∷ Fixed s.Eq ∷ Name (codes "SELECT") ∷ b ∷ Fixed s.From ∷ a ∷ Fixed s.As ∷ c ∷ Fixed s.Where ∷ b ∷ [])
    (Assign (codes "c") (From (record { source = source.Named (codes "a"); alias = codes "c" } ∷ []) (Some (col (codes "b"))) (One (col (codes "b")) None ∷ [])))
unfolding d.statement d.assignment d.relation d.sees_select d.selection d.item d.source d.condition d.emit d.emitted d.emitted_alias d.whole_expression d.expression d.disjunction d.conjunction d.negation d.comparison d.sum d.product d.signed d.primary d.same_symbol
selected_comprehension = is_statement _ _ refl

-- `c = load("f", csv(schema(a:int), skip=2))`
pub load_behind_two_records : Reads (c ∷ Fixed s.Eq ∷ Name (codes "load") ∷ Fixed s.OpenParen ∷ Quoted (codes "f") ∷ Fixed s.Comma ∷ Name (codes "csv") ∷ Fixed s.OpenParen ∷ Name (codes "schema") ∷ Fixed s.OpenParen
    ∷ a ∷ Fixed s.Colon ∷ Name (codes "int") ∷ Fixed s.CloseParen ∷ Fixed s.Comma ∷ Name (codes "skip") ∷ Fixed s.Eq ∷ Number 2 ∷ Fixed s.CloseParen ∷ Fixed s.CloseParen ∷ [])
    (Assign (codes "c") (Copy (source.Load (codes "f") (record { name = codes "a"; kind = type.Int } ∷ []) 2)))
unfolding d.statement d.assignment d.relation d.sees_select d.source d.load d.form d.skip d.column_definition d.same_symbol
load_behind_two_records = is_statement _ _ refl

-- `c = LOAD("f", csv(schema(a:int)))` passes over no record
pub load_of_all_records : Reads (c ∷ Fixed s.Eq ∷ Name (codes "LOAD") ∷ Fixed s.OpenParen ∷ Quoted (codes "f") ∷ Fixed s.Comma ∷ Name (codes "csv") ∷ Fixed s.OpenParen ∷ Name (codes "schema") ∷ Fixed s.OpenParen
    ∷ a ∷ Fixed s.Colon ∷ Name (codes "int") ∷ Fixed s.CloseParen ∷ Fixed s.CloseParen ∷ Fixed s.CloseParen ∷ []) (Assign (codes "c") (Copy (source.Load (codes "f") (record { name = codes "a"; kind = type.Int } ∷ []) 0)))
unfolding d.statement d.assignment d.relation d.sees_select d.source d.load d.form d.skip d.column_definition d.same_symbol
load_of_all_records = is_statement _ _ refl

-- `c = load(a)` is no statement
pub load_of_a_name : (t : StatementTree) → Reads (c ∷ Fixed s.Eq ∷ Name (codes "load") ∷ Fixed s.OpenParen ∷ a ∷ Fixed s.CloseParen ∷ []) t → ⊥
unfolding d.statement d.assignment d.relation d.sees_select d.source d.load d.form d.skip d.column_definition d.same_symbol
load_of_a_name t h = let some = statement-complete _ t h in cc

-- `load = load` copies the relation of that name
pub load_is_a_name : Reads (Name (codes "load") ∷ Fixed s.Eq ∷ Name (codes "load") ∷ []) (Assign (codes "load") (Copy (source.Named (codes "load"))))
unfolding d.statement d.assignment d.relation d.sees_select d.source d.load d.form d.skip d.column_definition d.same_symbol
load_is_a_name = is_statement _ _ refl

-- `select = select` copies the relation of that name
pub select_is_a_name : Reads (Name (codes "select") ∷ Fixed s.Eq ∷ Name (codes "select") ∷ []) (Assign (codes "select") (Copy (source.Named (codes "select"))))
unfolding d.statement d.assignment d.relation d.sees_select d.source d.same_symbol
select_is_a_name = is_statement _ _ refl

-- `c = a b` is no statement
pub text_behind_a_statement : (t : StatementTree) → Reads (c ∷ Fixed s.Eq ∷ a ∷ b ∷ []) t → ⊥
unfolding d.statement d.assignment d.relation d.sees_select d.source d.same_symbol
text_behind_a_statement t h = let some = statement-complete _ t h in cc

-- the widest place of a statement counts, also a schema in it
pub columns_of_a_schema : columns_of (Assign (codes "c") (Diff (source.Named (codes "a")) (source.Load (codes "f") (record { name = codes "a"; kind = type.Int } ∷ record { name = codes "b"; kind = type.Int } ∷ []) 0))) ≡ 2
columns_of_a_schema = refl

-- ---- words

-- a reserved word stands in any case
pub count_all_in_any_case : reserved (codes "CountALL") ≡ Some keyword.CountAll
unfolding reserved
count_all_in_any_case = refl

-- a type's word isn't reserved, and no part of a word is
pub int_is_a_name : reserved (codes "int") ≡ None
unfolding reserved
int_is_a_name = refl

pub counter_is_a_name : reserved (codes "counter") ≡ None
unfolding reserved
counter_is_a_name = refl

-- `long` is the type of ints, and `real` is none
pub long_is_int : type_of (codes "Long") ≡ Some type.Int
long_is_int = refl

pub real_is_no_type : type_of (codes "real") ≡ None
real_is_no_type = refl

-- ---- pieces

abbrev word : Token
word = record { kind = kind.Word; start = 0; end = 1 }

abbrev semicolon : Token
semicolon = record { kind = kind.Sign sign.Semicolon; start = 1; end = 2 }

-- an empty piece between semicolons counts, and so does what no semicolon ends
pub three_pieces : pieces_of (semicolon ∷ semicolon ∷ word ∷ [])
    ≡ record { tokens = []; ended = true } ∷ record { tokens = []; ended = true } ∷ record { tokens = word ∷ []; ended = false } ∷ []
three_pieces = refl

-- behind the last semicolon nothing is no piece
pub one_piece : pieces_of (word ∷ word ∷ semicolon ∷ []) ≡ record { tokens = word ∷ word ∷ []; ended = true } ∷ []
one_piece = refl

pub no_piece_at_all : pieces_of [] ≡ []
no_piece_at_all = refl

-- faults in words
pub syntax_in_words : fault_text (fault.Syntax 2) ≡ codes "statement 2: syntax error"
unfolding digits
syntax_in_words = refl

pub too_many_in_words : fault_text (fault.TooMany 12 what.Nesting) ≡ codes "statement 12: too many parentheses"
unfolding digits
too_many_in_words = refl
