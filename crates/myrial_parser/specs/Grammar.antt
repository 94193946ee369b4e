-- The grammar: which terminals read as which tree.
--
--   Expression n ts e     an expression in which at most n - 1 parentheses are open at one place
--   IsKey ts k            a key of one, two or three names
--   IsSource ts s         a relation by its name or by its key
--   IsRelation ts r       a relation expression
--   Reads ts s            a statement
use Rattle.std.specs.Prelude.{◌≡◌, ℕ, zero, suc, pos, neg_ℤ, Bool, true, false, if◌then◌else◌, ◌||◌, List, [], ◌∷◌, ◌++◌, Option, Some, None, codes}
use Rattle.std.specs.Str.{str_eq_ignore_ascii_case}
use Rattle.rel_base.specs.declared.values.Value.TheVariants as value
use Rattle.rel_base.specs.declared.values.ColType.{ColType}
use Rattle.rel_base.specs.declared.values.ColType.TheVariants as type
use Rattle.rel_base.specs.declared.names.Key.{Key}
use Rattle.rel_base.specs.declared.relations.Column.{Column}
use Rattle.myrial_ast.specs.declared.operators.BinOp.{BinOp}
use Rattle.myrial_ast.specs.declared.operators.BinOp.TheVariants as op
use Rattle.myrial_ast.specs.declared.operators.AggOp.{AggOp}
use Rattle.myrial_ast.specs.declared.operators.AggOp.TheVariants as agg
use Rattle.myrial_ast.specs.declared.expressions.ColRef.{ColRef}
use Rattle.myrial_ast.specs.declared.expressions.ColRef.TheVariants as column
use Rattle.myrial_ast.specs.declared.relations.Operand.{Operand}
use Rattle.myrial_ast.specs.declared.relations.Operand.TheVariants as source
use Rattle.myrial_ast.specs.declared.relations.FromItem.{FromItem}
use Rattle.myrial_ast.specs.Trees as tree
use Rattle.myrial_ast.specs.Trees.{Tree, EmitTree, RelTree, StatementTree, Name}
use Rattle.myrial_lexer.specs.declared.kinds.Sign.TheVariants as sign
use Rattle.myrial_parser.specs.declared.terminals.Keyword.{Keyword}
use Rattle.myrial_parser.specs.declared.terminals.Keyword.TheVariants as keyword
use Rattle.myrial_parser.specs.declared.terminals.Symbol.TheVariants.{Keyword as Word, Sign}
use Rattle.myrial_ast.specs.declared.relations.LoadForm.{LoadForm}
use Rattle.myrial_parser.specs.declared.loads.Load.{Load}
use Rattle.myrial_parser.specs.Symbols as s
use Rattle.myrial_parser.specs.Terminals as t
use Rattle.myrial_parser.specs.Terminals.{Terminal, Fixed}
use Rattle.myrial_parser.specs.Phrases.{Chain, Pair, Prefixed, Separated, is_word, Called}

-- ---- operators

abbrev pub or_sign : Terminal → Option BinOp
or_sign (Fixed (Word keyword.Or)) = Some op.Or
or_sign _ = None

abbrev pub and_sign : Terminal → Option BinOp
and_sign (Fixed (Word keyword.And)) = Some op.And
and_sign _ = None

abbrev pub sum_sign : Terminal → Option BinOp
sum_sign (Fixed (Sign sign.Plus)) = Some op.Add
sum_sign (Fixed (Sign sign.Minus)) = Some op.Sub
sum_sign _ = None

abbrev pub product_sign : Terminal → Option BinOp
product_sign (Fixed (Sign sign.Star)) = Some op.Mul
product_sign _ = None

abbrev pub comparison_sign : Terminal → Option BinOp
comparison_sign (Fixed (Sign sign.Eq)) = Some op.Eq
comparison_sign (Fixed (Sign sign.Ne)) = Some op.Ne
comparison_sign (Fixed (Sign sign.Lt)) = Some op.Lt
comparison_sign (Fixed (Sign sign.Le)) = Some op.Le
comparison_sign (Fixed (Sign sign.Gt)) = Some op.Gt
comparison_sign (Fixed (Sign sign.Ge)) = Some op.Ge
comparison_sign _ = None

-- the aggregate of an argument
abbrev pub aggregate_of : Keyword → Option AggOp
aggregate_of keyword.Count = Some agg.Count
aggregate_of keyword.Sum = Some agg.Sum
aggregate_of keyword.Min = Some agg.Min
aggregate_of keyword.Max = Some agg.Max
aggregate_of _ = None

-- ---- expressions

-- a column: a name or a place, of an alias or of all items
pub data IsColumn : List Terminal → ColRef → Type 0 where
  plain_name : (name : Name) → IsColumn (t.Name name ∷ []) (column.ByName name)
  plain_place : (place : ℕ) → IsColumn (Fixed s.Dollar ∷ t.Number place ∷ []) (column.ByPlace place)
  alias_name : (alias name : Name)
      → IsColumn (t.Name alias ∷ Fixed s.Dot ∷ t.Name name ∷ []) (column.OfName alias name)
  alias_place : (alias : Name) (place : ℕ)
      → IsColumn (t.Name alias ∷ Fixed s.Dot ∷ Fixed s.Dollar ∷ t.Number place ∷ [])
      (column.OfPlace alias place)

-- a number alone
abbrev pub is_number : List Terminal → Bool
is_number (t.Number value ∷ []) = true
is_number _ = false

-- in parentheses stands an inner expression
module _ (Inner : List Terminal → Tree → Type 0) where
  -- what stands in the parentheses of an aggregate; `count(*)` and `countall()` leave one tree
  pub data IsAggregated : Keyword → List Terminal → Tree → Type 0 where
    of_star : IsAggregated keyword.Count (Fixed s.Star ∷ []) (tree.AggAll agg.CountAll)
    of_nothing : IsAggregated keyword.CountAll [] (tree.AggAll agg.CountAll)
    of_argument : (word : Keyword) (op : AggOp) (ts : List Terminal) (e : Tree)
        → aggregate_of word ≡ Some op → Inner ts e
        → IsAggregated word ts (tree.Agg op e)

  -- a literal, a column, an aggregate, or an inner expression in parentheses, which leave no node
  pub data Primary : List Terminal → Tree → Type 0 where
    number : (n : ℕ) → Primary (t.Number n ∷ []) (tree.Lit (value.Int (pos n)))
    string : (text : List ℕ) → Primary (t.Quoted text ∷ []) (tree.Lit (value.Str text))
    truth : Primary (Fixed s.True ∷ []) (tree.Lit (value.Bool true))
    falsehood : Primary (Fixed s.False ∷ []) (tree.Lit (value.Bool false))
    reference : (ts : List Terminal) (c : ColRef) → IsColumn ts c → Primary ts (tree.Col c)
    grouped : (ts : List Terminal) (a : Tree) → Inner ts a
        → Primary (Fixed s.OpenParen ∷ ts ++ Fixed s.CloseParen ∷ []) a
    aggregate : (word : Keyword) (ts : List Terminal) (e : Tree) → IsAggregated word ts e
        → Primary (Fixed (Word word) ∷ Fixed s.OpenParen ∷ ts ++ Fixed s.CloseParen ∷ []) e

  -- a primary behind none or more minus signs; a minus sign and a number alone behind it are one literal
  pub data Signed : List Terminal → Tree → Type 0 where
    unsigned : (ts : List Terminal) (a : Tree) → Primary ts a → Signed ts a
    literal : (n : ℕ)
        → Signed (Fixed s.Minus ∷ t.Number n ∷ []) (tree.Lit (value.Int (neg_ℤ (pos n))))
    minus : (ts : List Terminal) (a : Tree) → Signed ts a → is_number ts ≡ false
        → Signed (Fixed s.Minus ∷ ts) (tree.Neg a)

  abbrev pub Product : List Terminal → Tree → Type 0
  Product = Chain product_sign Signed

  abbrev pub Sum : List Terminal → Tree → Type 0
  Sum = Chain sum_sign Product

  abbrev pub Comparison : List Terminal → Tree → Type 0
  Comparison = Pair comparison_sign Sum

  abbrev pub Negation : List Terminal → Tree → Type 0
  Negation = Prefixed s.Not tree.Not Comparison

  abbrev pub Conjunction : List Terminal → Tree → Type 0
  Conjunction = Chain and_sign Negation

  abbrev pub Disjunction : List Terminal → Tree → Type 0
  Disjunction = Chain or_sign Conjunction

-- an expression in which fewer parentheses than the number are open at one place
abbrev pub Expression : ℕ → List Terminal → Tree → Type 0
Expression zero ts e = ⊥
Expression (suc n) ts e = Disjunction (Expression n) ts e

-- an expression
abbrev pub IsExpression : List Terminal → Tree → Type 0
IsExpression ts e = (n : ℕ) × Expression n ts e

-- ---- relation expressions

-- a key: its name, behind a program and behind a user where they are given
pub data IsKey : List Terminal → Key → Type 0 where
  own_key : (n : Name)
      → IsKey (t.Name n ∷ []) (record { user = codes "public"; program = codes "adhoc"; name = n })
  program_key : (p n : Name)
      → IsKey (t.Name p ∷ Fixed s.Colon ∷ t.Name n ∷ [])
      (record { user = codes "public"; program = p; name = n })
  user_key : (u p n : Name)
      → IsKey (t.Name u ∷ Fixed s.Colon ∷ t.Name p ∷ Fixed s.Colon ∷ t.Name n ∷ [])
      (record { user = u; program = p; name = n })

-- the type that a word names, in any case
abbrev pub type_of : List ℕ → Option ColType
type_of word =
    if str_eq_ignore_ascii_case word (codes "int") || str_eq_ignore_ascii_case word (codes "long")
    then Some type.Int
    else (if str_eq_ignore_ascii_case word (codes "string") then Some type.Str
    else (if str_eq_ignore_ascii_case word (codes "boolean") then Some type.Bool else None))

-- a column of `empty`: its name and its type
pub data IsColumnDefinition : List Terminal → Column → Type 0 where
  typed : (n word : Name) (k : ColType) → type_of word ≡ Some k
      → IsColumnDefinition (t.Name n ∷ Fixed s.Colon ∷ t.Name word ∷ [])
      (record { name = n; kind = k })

-- how many records are passed over: none where nothing is said
pub data IsSkip : List Terminal → ℕ → Type 0 where
  no_skip : IsSkip [] 0
  a_skip : (word : Name) (n : ℕ) → is_word (codes "skip") word ≡ true
      → IsSkip (Fixed s.Comma ∷ t.Name word ∷ Fixed s.Eq ∷ t.Number n ∷ []) n

-- the columns of a file without a header, and how many of its records are passed over
pub data IsForm : List Terminal → LoadForm → Type 0 where
  formed : (ts us : List Terminal) (columns : List Column) (n : ℕ)
      → Called (codes "schema") (Separated IsColumnDefinition) ts columns → IsSkip us n
      → IsForm (ts ++ us) (record { schema = columns; skip = n })

-- the name of a file without a header, and its form
pub data IsLoad : List Terminal → Load → Type 0 where
  loaded : (file : List ℕ) (ts : List Terminal) (f : LoadForm) → Called (codes "csv") IsForm ts f
      → IsLoad (t.Quoted file ∷ Fixed s.Comma ∷ ts) (record { file = file; form = f })

-- the operand of a load
abbrev pub operand_of : Load → Operand
operand_of l = source.Load l.file l.form.schema l.form.skip

-- a relation by its name, by its key, or of a file without a header
pub data IsSource : List Terminal → Operand → Type 0 where
  named_source : (n : Name) → IsSource (t.Name n ∷ []) (source.Named n)
  scanned_source : (ts : List Terminal) (k : Key) → IsKey ts k
      → IsSource (Fixed s.Scan ∷ Fixed s.OpenParen ∷ ts ++ Fixed s.CloseParen ∷ []) (source.Scan k)
  loaded_source : (ts : List Terminal) (l : Load) → Called (codes "load") IsLoad ts l
      → IsSource ts (operand_of l)

-- the name of a source, the last name of its key, or the name of its file
abbrev pub own_name : Operand → Name
own_name (source.Named n) = n
own_name (source.Scan k) = k.name
own_name (source.Load file schema skip) = file

-- an item of a comprehension, whose alias is its source's own name where none is given
pub data IsItem : List Terminal → FromItem → Type 0 where
  unaliased : (ts : List Terminal) (o : Operand) → IsSource ts o
      → IsItem ts (record { source = o; alias = own_name o })
  aliased : (ts : List Terminal) (o : Operand) (n : Name) → IsSource ts o
      → IsItem (ts ++ Fixed s.As ∷ t.Name n ∷ []) (record { source = o; alias = n })

-- what a comprehension emits
pub data IsEmit : List Terminal → EmitTree → Type 0 where
  all_columns : IsEmit (Fixed s.Star ∷ []) tree.All
  columns_of : (alias : Name)
      → IsEmit (t.Name alias ∷ Fixed s.Dot ∷ Fixed s.Star ∷ []) (tree.AllOf alias)
  unnamed : (ts : List Terminal) (e : Tree) → IsExpression ts e → IsEmit ts (tree.One e None)
  named : (ts : List Terminal) (e : Tree) (n : Name) → IsExpression ts e
      → IsEmit (ts ++ Fixed s.As ∷ t.Name n ∷ []) (tree.One e (Some n))

-- the condition of a comprehension, where there is one
pub data IsCondition : List Terminal → Option Tree → Type 0 where
  absent : IsCondition [] None
  present : (ts : List Terminal) (e : Tree) → IsExpression ts e
      → IsCondition (Fixed s.Where ∷ ts) (Some e)

-- what stands in the parentheses of `empty`, `distinct`, `unionall` and `diff`
pub data IsArgument : Keyword → List Terminal → RelTree → Type 0 where
  of_columns : (ts : List Terminal) (columns : List Column)
      → Separated IsColumnDefinition ts columns → IsArgument keyword.Empty ts (tree.Empty columns)
  of_one : (ts : List Terminal) (o : Operand) → IsSource ts o
      → IsArgument keyword.Distinct ts (tree.Distinct o)
  of_both : (ts us : List Terminal) (o p : Operand) → IsSource ts o → IsSource us p
      → IsArgument keyword.UnionAll (ts ++ Fixed s.Comma ∷ us) (tree.UnionAll o p)
  of_difference : (ts us : List Terminal) (o p : Operand) → IsSource ts o → IsSource us p
      → IsArgument keyword.Diff (ts ++ Fixed s.Comma ∷ us) (tree.Diff o p)

-- a relation expression: an operand, a word with its argument in parentheses, or a comprehension in brackets or behind
-- the word `select`, which isn't reserved
pub data IsRelation : List Terminal → RelTree → Type 0 where
  copied : (ts : List Terminal) (o : Operand) → IsSource ts o → IsRelation ts (tree.Copy o)
  called : (word : Keyword) (ts : List Terminal) (r : RelTree) → IsArgument word ts r
      → IsRelation (Fixed (Word word) ∷ Fixed s.OpenParen ∷ ts ++ Fixed s.CloseParen ∷ []) r
  comprehension : (ts us vs : List Terminal) (items : List FromItem) (condition : Option Tree)
      (emits : List EmitTree)
      → Separated IsItem ts items → IsCondition us condition → Separated IsEmit vs emits
      → IsRelation (Fixed s.OpenBracket ∷ Fixed s.From ∷ ts ++ us ++ Fixed s.Emit ∷ vs
      ++ Fixed s.CloseBracket ∷ []) (tree.From items condition emits)
  selected : (word : Name) (ts us vs : List Terminal) (emits : List EmitTree)
      (items : List FromItem) (condition : Option Tree)
      → is_word (codes "select") word ≡ true → Separated IsEmit ts emits → Separated IsItem us items
      → IsCondition vs condition
      → IsRelation (t.Name word ∷ (ts ++ (Fixed s.From ∷ (us ++ vs)))) (tree.From items condition emits)

-- ---- statements

-- a piece of a script, without the semicolon that ends it
pub data Reads : List Terminal → StatementTree → Type 0 where
  nothing : Reads [] tree.Nothing
  assigned : (n : Name) (ts : List Terminal) (r : RelTree) → IsRelation ts r
      → Reads (t.Name n ∷ Fixed s.Eq ∷ ts) (tree.Assign n r)
  stored : (n : Name) (ts : List Terminal) (k : Key) → IsKey ts k
      → Reads (Fixed s.Store ∷ Fixed s.OpenParen ∷ t.Name n ∷ Fixed s.Comma ∷ ts
      ++ Fixed s.CloseParen ∷ []) (tree.Store n k)
