-- What the descent reads, as a total function: the phrase of a kind that is ahead, and the terminals behind it. The private
-- functions of the parser answer these words. That they are the grammar is proved in proofs/: what is read is such a
-- phrase, and each phrase is read wherever no terminal behind it goes on with it.
--
--   Input                   the terminals ahead
--   Parsed A                a value and the terminals behind its phrase, or nothing where no such phrase is ahead
--   Parser A                what is parsed of each input
--   Parses view o r behind  a function that answers r and leaves these terminals parsed o, or was refused memory
--   chain, pair, prefixed   operands with operators between them, two at most, and behind symbols
--   expression depth        an expression in which fewer parentheses than `depth` are open at one place
--   separated item          items with commas between them
--   key, source, relation   the phrases of `IsKey`, `IsSource` and `IsRelation`
--   statement               a statement that goes on to the end
use Rattle.std.specs.Prelude.{◌≡◌, ℕ, zero, suc, ◌+◌, pos, neg_ℤ, Bool, true, false, if◌then◌else◌, ◌&&◌, List, [], ◌∷◌, length, drop, Option, Some, None, Result, Ok, Err, unwrap_or, codes, nat_lt}
use Rattle.std.specs.Option.{option_and_then}
use denote.Enum.Bare.{sameb}
use Rattle.rel_base.specs.declared.values.Value.TheVariants as value
use Rattle.rel_base.specs.declared.values.ColType.{ColType}
use Rattle.rel_base.specs.declared.names.Key.{Key}
use Rattle.rel_base.specs.declared.relations.Column.{Column}
use Rattle.myrial_ast.specs.declared.operators.BinOp.{BinOp}
use Rattle.myrial_ast.specs.declared.operators.AggOp.{AggOp}
use Rattle.myrial_ast.specs.declared.operators.AggOp.TheVariants as agg
use Rattle.myrial_ast.specs.declared.expressions.ColRef.{ColRef}
use Rattle.myrial_ast.specs.declared.expressions.ColRef.TheVariants as column
use Rattle.myrial_ast.specs.declared.relations.Operand.{Operand}
use Rattle.myrial_ast.specs.declared.relations.Operand.TheVariants.{Named, Scan}
use Rattle.myrial_ast.specs.declared.relations.FromItem.{FromItem}
use Rattle.myrial_ast.specs.Trees as tree
use Rattle.myrial_ast.specs.Trees.{Tree, EmitTree, RelTree, StatementTree, Name}
use Rattle.myrial_lexer.specs.contracts.kinds.Sign.{the_type as sign_type}
use Rattle.myrial_lexer.specs.declared.kinds.Sign.TheVariants as sign
use Rattle.myrial_parser.specs.contracts.terminals.Keyword.{the_type as keyword_type}
use Rattle.myrial_parser.specs.declared.terminals.Keyword.{Keyword}
use Rattle.myrial_parser.specs.declared.terminals.Keyword.TheVariants as keyword
use Rattle.myrial_parser.specs.declared.faults.Refusal.{Refusal}
use Rattle.myrial_parser.specs.declared.faults.Refusal.TheVariants as refusal
use Rattle.myrial_ast.specs.declared.relations.LoadForm.{LoadForm}
use Rattle.myrial_parser.specs.declared.loads.Load.{Load}
use Rattle.myrial_parser.specs.declared.expressions.Level.{Level}
use Rattle.myrial_parser.specs.declared.expressions.Level.TheVariants as level
use Rattle.myrial_parser.specs.declared.terminals.Symbol.{Symbol}
use Rattle.myrial_parser.specs.declared.terminals.Symbol.TheVariants.{Keyword as Word, Sign}
use Rattle.myrial_parser.specs.Symbols as s
use Rattle.myrial_parser.specs.Terminals as t
use Rattle.myrial_parser.specs.Terminals.{Terminal, Fixed}
use Rattle.myrial_parser.specs.Grammar.{or_sign, and_sign, sum_sign, product_sign, comparison_sign, type_of, own_name, operand_of}
use Rattle.myrial_parser.specs.Phrases.{is_word}

-- ---- the terminals ahead

abbrev pub Input : Type 0
Input = List Terminal

-- the first of them
abbrev pub first : {A : Type 0} → List A → Option A
first [] = None
first (x ∷ xs) = Some x

-- whether two symbols are one
unfoldable pub same_symbol : Symbol → Symbol → Bool
same_symbol (Word found) (Word other) = sameb keyword_type found other
same_symbol (Sign found) (Sign other) = sameb sign_type found other
same_symbol _ _ = false

-- whether a terminal is this symbol
abbrev pub is_symbol : Symbol → Option Terminal → Bool
is_symbol symbol (Some (Fixed found)) = same_symbol found symbol
is_symbol symbol _ = false

abbrev pub sees : Symbol → Input → Bool
sees symbol i = is_symbol symbol (first i)

abbrev pub after : Symbol → Input → Input
after symbol i = if sees symbol i then drop 1 i else i

-- ---- rules

abbrev pub Parsed : Type 0 → Type 0
Parsed A = Option (A × Input)

abbrev pub Parser : Type 0 → Type 0
Parser A = Input → Parsed A

infixl 10 ◌>>=◌
abbrev pub ◌>>=◌ : {A B : Type 0} → Parsed A → (A → Parser B) → Parsed B
None >>= f = None
(Some p) >>= f = f p.0 p.1

-- what a function that reads ensures: the outcome, seen by view, unless memory was refused
abbrev pub Parses : {X Y : Type 0} → (X → Y) → Parsed Y → Result X Refusal → Input → Type 0
Parses view outcome (Ok x) new = outcome ≡ Some (view x, new)
Parses view outcome (Err refusal.Syntax) new = outcome ≡ None
Parses view outcome (Err refusal.Memory) new = Unit {0}

-- passes this symbol, which has to come next
abbrev pub expect : Symbol → Parser (Unit {0})
expect symbol i = if sees symbol i then Some (tt, drop 1 i) else None

-- passes the end, which has to be reached
abbrev pub end : Parser (Unit {0})
end [] = Some (tt, [])
end (x ∷ i) = None

abbrev pub name_by : Option Terminal → Parser Name
name_by (Some (t.Name n)) rest = Some (n, rest)
name_by _ rest = None

abbrev pub name : Parser Name
name i = name_by (first i) (drop 1 i)

abbrev pub number_by : Option Terminal → Parser ℕ
number_by (Some (t.Number n)) rest = Some (n, rest)
number_by _ rest = None

abbrev pub number : Parser ℕ
number i = number_by (first i) (drop 1 i)

-- ---- operators

-- the operator that a terminal is between operands of a level
abbrev pub sign_at : Level → Terminal → Option BinOp
sign_at level.Disjunction = or_sign
sign_at level.Conjunction = and_sign
sign_at level.Sum = sum_sign
sign_at level.Product = product_sign

-- the operator that is ahead
abbrev pub operator_ahead : (Terminal → Option BinOp) → Input → Option BinOp
operator_ahead sign i = option_and_then sign (first i)

-- the symbol that is ahead
abbrev pub symbol_of : Option Terminal → Option Symbol
symbol_of (Some (Fixed symbol)) = Some symbol
symbol_of _ = None

abbrev pub symbol_ahead : Input → Option Symbol
symbol_ahead i = symbol_of (first i)

-- the terminals behind an operator, if one is ahead
abbrev pub behind_operator : Option BinOp → Input → Input
behind_operator (Some op) i = drop 1 i
behind_operator None i = i

module _ (sign : Terminal → Option BinOp) (operand : Parser Tree) where
  -- behind an operand: an operator with its operand and what goes on with it, or nothing
  abbrev pub chain_by : (Tree → Parser Tree) → Tree → Option BinOp → Parser Tree
  chain_by on left None i = Some (left, i)
  chain_by on left (Some op) i = operand (drop 1 i) >>= λ right. on (tree.Bin op left right)

  -- goes on with operators and operands, so many at most
  abbrev pub chain_from : ℕ → Tree → Parser Tree
  chain_from zero left i = Some (left, i)
  chain_from (suc turns) left i = chain_by (chain_from turns) left (operator_ahead sign i) i

  -- operands with operators between them
  abbrev pub chain : Parser Tree
  chain i = operand i >>= λ left rest. chain_from (length rest) left rest

  abbrev pub pair_by : Tree → Option BinOp → Parser Tree
  pair_by left None i = Some (left, i)
  pair_by left (Some op) i =
      operand (drop 1 i) >>= λ right rest. Some (tree.Bin op left right, rest)

  -- an operand, or two with an operator between them
  abbrev pub pair : Parser Tree
  pair i = operand i >>= λ left rest. pair_by left (operator_ahead sign rest) rest

module _ (symbol : Symbol) (node : Tree → Tree) (operand : Parser Tree) where
  -- an operand behind none or more of a symbol
  abbrev pub prefixed : Parser Tree
  prefixed [] = operand []
  prefixed (x ∷ i) = if is_symbol symbol (Some x)
      then (prefixed i >>= λ a rest. Some (node a, rest)) else operand (x ∷ i)

-- how many of a symbol are ahead, and the terminals behind them
abbrev pub count_ahead : Symbol → Input → ℕ
count_ahead symbol [] = 0
count_ahead symbol (x ∷ i) = if is_symbol symbol (Some x) then suc (count_ahead symbol i) else 0

-- what is read between an opening and a closing parenthesis
abbrev pub in_parens : {A : Type 0} → Parser A → Parser A
in_parens inside i = expect s.OpenParen i >>= λ _ rest. inside rest >>= λ a end.
    expect s.CloseParen end >>= λ _ behind. Some (a, behind)

-- ---- expressions

-- a column of an alias
abbrev pub column_of : Name → Parser ColRef
column_of alias i =
    if sees s.Dollar i
    then (number (drop 1 i) >>= λ place rest. Some (column.OfPlace alias place, rest))
    else (name i >>= λ n rest. Some (column.OfName alias n, rest))

-- a column by what stands behind its first name
abbrev pub column_behind : Name → Parser ColRef
column_behind n i = if sees s.Dot i then column_of n (drop 1 i) else Some (column.ByName n, i)

-- the literal of a number behind a minus sign
abbrev pub negative : ℕ → Tree
negative n = tree.Lit (value.Int (neg_ℤ (pos n)))

-- a tree below so many nodes of a kind
abbrev pub wrapped : (Tree → Tree) → ℕ → Tree → Tree
wrapped node zero a = a
wrapped node (suc count) a = node (wrapped node count a)

module _ (inner : Parser Tree) where
  -- an aggregate of an argument
  abbrev pub aggregate : AggOp → Parser Tree
  aggregate op i = inner i >>= λ a rest. Some (tree.Agg op a, rest)

  -- what stands in the parentheses of an aggregate
  abbrev pub aggregated : Keyword → Parser Tree
  aggregated keyword.CountAll i = Some (tree.AggAll agg.CountAll, i)
  aggregated keyword.Count i =
      if sees s.Star i then Some (tree.AggAll agg.CountAll, drop 1 i) else aggregate agg.Count i
  aggregated keyword.Sum i = aggregate agg.Sum i
  aggregated keyword.Min i = aggregate agg.Min i
  aggregated keyword.Max i = aggregate agg.Max i
  aggregated _ i = None

  -- what stands behind the symbol that a primary begins with
  abbrev pub fixed_by : Symbol → Parser Tree
  fixed_by (Word keyword.True) i = Some (tree.Lit (value.Bool true), i)
  fixed_by (Word keyword.False) i = Some (tree.Lit (value.Bool false), i)
  fixed_by (Word word) i = in_parens (aggregated word) i
  fixed_by (Sign sign.Dollar) i =
      number i >>= λ place rest. Some (tree.Col (column.ByPlace place), rest)
  fixed_by (Sign sign.OpenParen) i =
      inner i >>= λ a rest. expect s.CloseParen rest >>= λ _ end. Some (a, end)
  fixed_by (Sign _) i = None

  abbrev pub primary_by : Option Terminal → Parser Tree
  primary_by (Some (t.Number n)) i = Some (tree.Lit (value.Int (pos n)), i)
  primary_by (Some (t.Quoted text)) i = Some (tree.Lit (value.Str text), i)
  primary_by (Some (t.Name n)) i = column_behind n i >>= λ c rest. Some (tree.Col c, rest)
  primary_by (Some (Fixed symbol)) i = fixed_by symbol i
  primary_by None i = None

  unfoldable pub primary : Parser Tree
  primary i = primary_by (first i) (drop 1 i)

  -- behind a minus sign: a number, or what stands there anyway
  abbrev pub behind_minus : Option Terminal → Input → Parsed Tree → Parsed Tree
  behind_minus (Some (t.Number n)) rest other = Some (negative n, rest)
  behind_minus _ rest other = other >>= λ a end. Some (tree.Neg a, end)

  unfoldable pub signed : Parser Tree
  signed [] = primary []
  signed (x ∷ i) = if is_symbol s.Minus (Some x) then behind_minus (first i) (drop 1 i) (signed i)
      else primary (x ∷ i)

  -- what is read behind so many minus signs, by the terminal that is ahead
  abbrev pub signed_behind : ℕ → Option Terminal → Parser Tree
  signed_behind zero next i = primary i
  signed_behind (suc count) (Some (t.Number n)) i =
      Some (wrapped tree.Neg count (negative n), drop 1 i)
  signed_behind (suc count) next i =
      primary i >>= λ a rest. Some (wrapped tree.Neg (suc count) a, rest)

  unfoldable pub product : Parser Tree
  product = chain product_sign signed

  unfoldable pub sum : Parser Tree
  sum = chain sum_sign product

  unfoldable pub comparison : Parser Tree
  comparison = pair comparison_sign sum

  unfoldable pub negation : Parser Tree
  negation = prefixed s.Not tree.Not comparison

  unfoldable pub conjunction : Parser Tree
  conjunction = chain and_sign negation

  unfoldable pub disjunction : Parser Tree
  disjunction = chain or_sign conjunction

  -- the operand of a level, and the operands of a level with operators between them
  abbrev pub operand_at : Level → Parser Tree
  operand_at level.Disjunction = conjunction
  operand_at level.Conjunction = negation
  operand_at level.Sum = product
  operand_at level.Product = signed

  abbrev pub chain_at : Level → Parser Tree
  chain_at level.Disjunction = disjunction
  chain_at level.Conjunction = conjunction
  chain_at level.Sum = sum
  chain_at level.Product = product

-- an expression in which fewer parentheses than the number are open at one place
unfoldable pub expression : ℕ → Parser Tree
expression zero i = None
expression (suc depth) i = disjunction (expression depth) i

-- ---- lists

module _ {A : Type 0} (item : Parser A) where
  -- an item, and the others behind a comma, so many at most
  abbrev pub separated_from : ℕ → Parser (List A)
  separated_from zero i = None
  separated_from (suc turns) i = item i >>= λ a rest.
      if sees s.Comma rest
      then (separated_from turns (drop 1 rest) >>= λ others end. Some (a ∷ others, end))
      else Some (a ∷ [], rest)

  -- one or more items with commas between them
  abbrev pub separated : Parser (List A)
  separated i = separated_from (length i) i

-- ---- relation expressions

-- a key behind its first two names, a program where no third one follows
abbrev pub key_behind_two : Name → Name → Parser Key
key_behind_two first second i =
    if sees s.Colon i
    then (name (drop 1 i) >>= λ third rest.
    Some (record { user = first; program = second; name = third }, rest))
    else Some (record { user = codes "public"; program = first; name = second }, i)

-- a key behind its first name
abbrev pub key_behind : Name → Parser Key
key_behind first i =
    if sees s.Colon i then (name (drop 1 i) >>= λ second rest. key_behind_two first second rest)
    else Some (record { user = codes "public"; program = codes "adhoc"; name = first }, i)

unfoldable pub key : Parser Key
key i = name i >>= λ first rest. key_behind first rest

-- the type that a word names
abbrev pub kind_of : Option ColType → Parser ColType
kind_of (Some kind) rest = Some (kind, rest)
kind_of None rest = None

abbrev pub kind_by : Option Terminal → Parser ColType
kind_by (Some (t.Name word)) rest = kind_of (type_of word) rest
kind_by _ rest = None

abbrev pub kind : Parser ColType
kind i = kind_by (first i) (drop 1 i)

unfoldable pub column_definition : Parser Column
column_definition i = name i >>= λ n rest. expect s.Colon rest >>= λ _ behind.
    kind behind >>= λ k end. Some (record { name = n; kind = k }, end)

-- whether this word, which isn't reserved, is ahead
abbrev pub is_word_of : List ℕ → Option Terminal → Bool
is_word_of wanted (Some (t.Name word)) = is_word wanted word
is_word_of wanted _ = false

-- passes this word, which has to come next
abbrev pub word : List ℕ → Parser (Unit {0})
word wanted i = if is_word_of wanted (first i) then Some (tt, drop 1 i) else None

-- a word, and what is read in parentheses behind it
abbrev pub called : {A : Type 0} → List ℕ → Parser A → Parser A
called wanted inside i = word wanted i >>= λ _ rest. in_parens inside rest

abbrev pub quoted_by : Option Terminal → Parser (List ℕ)
quoted_by (Some (t.Quoted text)) rest = Some (text, rest)
quoted_by _ rest = None

abbrev pub quoted : Parser (List ℕ)
quoted i = quoted_by (first i) (drop 1 i)

-- how many records are passed over
unfoldable pub skip : Parser ℕ
skip i = if sees s.Comma i
    then (word (codes "skip") (drop 1 i) >>= λ _ rest. expect s.Eq rest >>= λ _ rest. number rest)
    else Some (0, i)

unfoldable pub form : Parser LoadForm
form i = called (codes "schema") (separated column_definition) i >>= λ columns rest.
    skip rest >>= λ n end. Some (record { schema = columns; skip = n }, end)

unfoldable pub load : Parser Load
load i = quoted i >>= λ file rest. expect s.Comma rest >>= λ _ rest.
    called (codes "csv") form rest >>= λ f end. Some (record { file = file; form = f }, end)

-- whether the word `load` is ahead, and a parenthesis behind it; elsewhere it is a name
abbrev pub sees_load : Input → Bool
sees_load i = is_word_of (codes "load") (first i) && sees s.OpenParen (drop 1 i)

unfoldable pub source : Parser Operand
source i =
    if sees s.Scan i then (in_parens key (drop 1 i) >>= λ k rest. Some (Scan k, rest))
    else (if sees_load i then (called (codes "load") load i >>= λ l rest. Some (operand_of l, rest))
    else (name i >>= λ n rest. Some (Named n, rest)))

unfoldable pub two_sources : Parser (Operand × Operand)
two_sources i = source i >>= λ left rest. expect s.Comma rest >>= λ _ behind.
    source behind >>= λ right end. Some ((left, right), end)

-- a name behind `as`, where there is one
abbrev pub name_behind_as : Parser (Option Name)
name_behind_as i =
    if sees s.As i then (name (drop 1 i) >>= λ n rest. Some (Some n, rest)) else Some (None, i)

unfoldable pub item : Parser FromItem
item i = source i >>= λ o rest. name_behind_as rest >>= λ alias end.
    Some (record { source = o; alias = unwrap_or alias (own_name o) }, end)

-- an expression that nests no deeper than there are terminals ahead
unfoldable pub whole_expression : Parser Tree
whole_expression i = expression (length i + 1) i

unfoldable pub condition : Parser (Option Tree)
condition i = if sees s.Where i then (whole_expression (drop 1 i) >>= λ a rest. Some (Some a, rest))
    else Some (None, i)

-- an expression that is emitted, with a name where one is given
unfoldable pub emitted : Parser EmitTree
emitted i = whole_expression i >>= λ a rest. name_behind_as rest >>= λ n end.
    Some (tree.One a n, end)

-- the alias of an item all of whose columns are emitted
unfoldable pub emitted_alias : Parser EmitTree
emitted_alias i = name i >>= λ alias rest. Some (tree.AllOf alias, drop 1 (drop 1 rest))

unfoldable pub emit : Parser EmitTree
emit i =
    if sees s.Star i then Some (tree.All, drop 1 i)
    else (if sees s.Dot (drop 1 i) && sees s.Star (drop 2 i) then emitted_alias i else emitted i)

-- what a comprehension in brackets emits, up to the closing bracket
unfoldable pub bracketed_emits : Parser (List EmitTree)
bracketed_emits i = expect s.Emit i >>= λ _ rest. separated emit rest >>= λ all rest.
    expect s.CloseBracket rest >>= λ _ end. Some (all, end)

unfoldable pub comprehension : Parser RelTree
comprehension i =
    expect s.From i >>= λ _ rest. separated item rest >>= λ from rest.
    condition rest >>= λ where_ rest. bracketed_emits rest >>= λ all end.
    Some (tree.From from where_ all, end)

-- what stands in the parentheses of a word
unfoldable pub argument : Keyword → Parser RelTree
argument keyword.Empty i =
    separated column_definition i >>= λ columns rest. Some (tree.Empty columns, rest)
argument keyword.Distinct i = source i >>= λ o rest. Some (tree.Distinct o, rest)
argument keyword.UnionAll i = two_sources i >>= λ p rest. Some (tree.UnionAll p.0 p.1, rest)
argument keyword.Diff i = two_sources i >>= λ p rest. Some (tree.Diff p.0 p.1, rest)
argument _ i = None

abbrev pub copied : Parser RelTree
copied i = source i >>= λ o rest. Some (tree.Copy o, rest)

-- a comprehension behind the word `select`
unfoldable pub selection : Parser RelTree
selection i = separated emit i >>= λ all rest. expect s.From rest >>= λ _ rest.
    separated item rest >>= λ from rest. condition rest >>= λ where_ end.
    Some (tree.From from where_ all, end)

-- whether the word `select` is ahead, and something behind it; alone it is a name
unfoldable pub sees_select : Input → Bool
sees_select i = is_word_of (codes "select") (first i) && nat_lt 1 (length i)

-- a comprehension behind `select`, or an operand
abbrev pub unmarked : Parser RelTree
unmarked i = if sees_select i then selection (drop 1 i) else copied i

-- a relation by the symbol that it begins with
abbrev pub relation_by : Option Symbol → Parser RelTree
relation_by (Some (Sign sign.OpenBracket)) i = comprehension (drop 1 i)
relation_by (Some (Word keyword.Scan)) i = copied i
relation_by (Some (Word word)) i = in_parens (argument word) (drop 1 i)
relation_by _ i = unmarked i

unfoldable pub relation : Parser RelTree
relation i = relation_by (symbol_ahead i) i

-- ---- statements

unfoldable pub assignment : Parser StatementTree
assignment i = name i >>= λ n rest. expect s.Eq rest >>= λ _ behind. relation behind >>= λ r end.
    Some (tree.Assign n r, end)

-- what stands behind `store`
unfoldable pub store : Parser StatementTree
store i =
    expect s.OpenParen i >>= λ _ rest. name rest >>= λ n rest. expect s.Comma rest >>= λ _ rest.
    key rest >>= λ k rest.
    expect s.CloseParen rest >>= λ _ end. Some (tree.Store n k, end)

-- a statement that isn't empty
abbrev pub action : Parser StatementTree
action i = if sees s.Store i then store (drop 1 i) else assignment i

-- a statement that goes on to the end
unfoldable pub statement : Parser StatementTree
statement [] = Some (tree.Nothing, [])
statement (x ∷ i) = action (x ∷ i) >>= λ a rest. end rest >>= λ _ behind. Some (a, behind)
