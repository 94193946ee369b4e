-- Relation expressions: each phrase is read by the descent.
use Rattle.std.proofs.Common.{◌≡◌, ℕ, zero, suc, ◌+◌, ◌<◌, Bool, true, false, cond, ◌&&◌, List, [], ◌∷◌, ◌++◌, drop, length, Option, Some, None, unwrap_or, codes, refl, sym, ap, subst, ◌∙◌, append_assoc, append-nil, add-one, length-append, arith}
use Rattle.std.specs.Prelude.{nat_lt}
use Rattle.std.specs.Str.{bytes_eq, str_to_ascii_lowercase}
use Rattle.std.proofs.lemmas.Slice.Eq.{bytes_eq-Decides}
use Rattle.myrial_ast.specs.declared.relations.LoadForm.{LoadForm}
use Rattle.myrial_parser.specs.declared.loads.Load.{Load}
use Rattle.std.proofs.lemmas.Bool.{false≢true, lt-ltb}
use Rattle.rel_base.specs.declared.values.ColType.{ColType}
use Rattle.rel_base.specs.declared.names.Key.{Key}
use Rattle.rel_base.specs.declared.relations.Column.{Column}
use Rattle.myrial_ast.specs.declared.relations.Operand.{Operand}
use Rattle.myrial_ast.specs.declared.relations.Operand.TheVariants as source
use Rattle.myrial_ast.specs.declared.relations.FromItem.{FromItem}
use Rattle.myrial_ast.specs.Trees as tree
use Rattle.myrial_ast.specs.Trees.{Tree, EmitTree, RelTree}
use Rattle.myrial_lexer.specs.declared.kinds.Sign.TheVariants as sign
use Rattle.myrial_parser.specs.declared.terminals.Keyword.{Keyword}
use Rattle.myrial_parser.specs.declared.terminals.Keyword.TheVariants as keyword
use Rattle.myrial_parser.specs.declared.terminals.Symbol.{Symbol}
use Rattle.myrial_parser.specs.declared.terminals.Symbol.TheVariants.{Keyword as Word, Sign}
use Rattle.myrial_parser.specs.Symbols as s
use Rattle.myrial_parser.specs.Terminals.{Terminal, Fixed, Name, Number, Quoted}
use Rattle.myrial_parser.specs.Phrases.{Separated, is_word, called}
use Rattle.myrial_parser.specs.Grammar as g
use Rattle.myrial_parser.specs.Grammar.{IsKey, own_key, program_key, user_key, IsSkip, no_skip, a_skip, IsForm, formed, IsLoad, loaded, operand_of, IsSource, named_source, scanned_source, loaded_source, IsColumnDefinition, typed, IsItem, unaliased, aliased, IsCondition, absent, present, IsEmit, all_columns, columns_of, unnamed, named, IsExpression, IsArgument, IsRelation, own_name}
use Rattle.myrial_parser.specs.inner.Descent as d
use Rattle.myrial_parser.specs.inner.Descent.{Input, Parsed, Parser, ◌>>=◌, is_symbol, sees, expect, name, in_parens, key_behind_two, kind_of, name_behind_as, separated, same_symbol}
use Rattle.myrial_parser.proofs.ParserLemmas.{Complete, stops, either, stops-left, stops-right, same_rest, sees-is, in_parens-all, called-all, chain-none, pair-none}
use Rattle.myrial_parser.proofs.SeparatedLemmas.{is_comma, separated-complete}
use Rattle.myrial_parser.proofs.ExpressionLemmas.{is_dot}
use Rattle.myrial_parser.proofs.LevelLemmas.{past_product, past_sum, past_comparison, past_conjunction, past_expression, expression-read, expression-refuses_star}
use Rattle.myrial_parser.proofs.RelationSound.{IsTwo, both_sources}

-- ---- what goes on

-- nothing goes on with a phrase
abbrev pub nothing : Terminal → Bool
nothing x = false

pub stops-nothing : (i : Input) → stops nothing i ≡ true
stops-nothing [] = refl
stops-nothing (x ∷ i) = refl

-- a symbol goes on with a phrase
abbrev pub is_it : Symbol → Terminal → Bool
is_it symbol x = is_symbol symbol (Some x)

pub unseen : (symbol : Symbol) (i : Input) → stops (is_it symbol) i ≡ true → sees symbol i ≡ false
unseen symbol [] e = refl
unseen symbol (x ∷ i) e = by (is_it symbol x) e
  where
    by : (t : Bool) → cond t false true ≡ true → t ≡ false
    by true e = absurd (cc)
    by false e = refl

-- a phrase that is read has a terminal, where none is read of nothing
pub some-from_complete : {A : Type 0} (rule : Parser A) (Is : Input → A → Type 0) (goes_on : Terminal → Bool) → Complete rule Is goes_on → rule [] ≡ None → (ts : Input) (a : A) → Is ts a → 0 < length ts
some-from_complete rule Is goes_on complete none [] a h = let some = complete.reads [] a [] h refl in absurd (cc)
some-from_complete rule Is goes_on complete none (x ∷ ts) a h = omega arith

-- ---- keys and operands

key-all : (ts : Input) (k : Key) (rest : Input) → IsKey ts k → stops (is_it s.Colon) rest ≡ true → d.key (ts ++ rest) ≡ Some (k, rest)
unfolding d.key same_symbol
key-all _ _ rest (own_key n) st =
    ap (λ t. cond t (name (drop 1 rest) >>= λ m end. key_behind_two n m end) (Some (record { user = codes "public"; program = codes "adhoc"; name = n }, rest))) (unseen s.Colon rest st)
key-all _ _ rest (program_key p n) st =
    ap (λ t. cond t (name (drop 1 rest) >>= λ m end. Some (record { user = p; program = n; name = m }, end)) (Some (record { user = codes "public"; program = p; name = n }, rest))) (unseen s.Colon rest st)
key-all _ _ rest (user_key u p n) st = refl

pub key-complete : Complete d.key IsKey (is_it s.Colon)
key-complete = record { reads = key-all }

colon-apart : is_it s.Colon (Fixed s.CloseParen) ≡ false
unfolding same_symbol
colon-apart = refl

-- ---- columns of `empty`

column_definition-all : (ts : Input) (c : Column) (rest : Input) → IsColumnDefinition ts c → stops nothing rest ≡ true → d.column_definition (ts ++ rest) ≡ Some (c, rest)
unfolding d.column_definition same_symbol
column_definition-all _ _ rest (typed n word k e) st = ap (λ (o : Option ColType). kind_of o rest >>= λ k end. Some (record { name = n; kind = k }, end)) e

pub column_definition-complete : Complete d.column_definition IsColumnDefinition nothing
column_definition-complete = record { reads = column_definition-all }

no_column : d.column_definition [] ≡ None
unfolding d.column_definition
no_column = refl

-- an opening parenthesis goes on with a name
abbrev opens : Terminal → Bool
opens = is_it s.OpenParen

-- a phrase that is read wherever it stands is read where some terminals don't follow it
anywhere : {A : Type 0} (rule : Parser A) (Is : Input → A → Type 0) (goes_on : Terminal → Bool) → Complete rule Is nothing → Complete rule Is goes_on
anywhere rule Is goes_on complete = record { reads = λ ts a rest h st. complete.reads ts a rest h (stops-nothing rest) }

comma-opens : opens (Fixed s.Comma) ≡ false
unfolding same_symbol
comma-opens = refl

columns-complete : Complete (separated d.column_definition) (Separated IsColumnDefinition) (either opens is_comma)
columns-complete =
    separated-complete d.column_definition IsColumnDefinition opens (anywhere d.column_definition IsColumnDefinition opens column_definition-complete) comma-opens
    (some-from_complete d.column_definition IsColumnDefinition nothing column_definition-complete no_column)

columns-apart : either opens is_comma (Fixed s.CloseParen) ≡ false
unfolding same_symbol
columns-apart = refl

-- ---- loads

skip-all : (ts : Input) (n : ℕ) (rest : Input) → IsSkip ts n → stops is_comma rest ≡ true → d.skip (ts ++ rest) ≡ Some (n, rest)
unfolding d.skip same_symbol
skip-all _ _ rest no_skip st = ap (λ t. cond {A = Parsed ℕ} t (d.word (codes "skip") (drop 1 rest) >>= λ _ rest. expect s.Eq rest >>= λ _ rest. d.number rest) (Some (0, rest))) (unseen s.Comma rest st)
skip-all _ _ rest (a_skip word n is) st =
    ap (λ t. cond {A = Parsed (Unit {0})} t (Some (tt, Fixed s.Eq ∷ Number n ∷ rest)) None >>= λ _ rest. expect s.Eq rest >>= λ _ rest. d.number rest) is

form-all : (ts : Input) (f : LoadForm) (rest : Input) → IsForm ts f → stops is_comma rest ≡ true → d.form (ts ++ rest) ≡ Some (f, rest)
unfolding d.form
form-all _ _ rest (formed ts us columns n h k) st =
    ap d.form (append_assoc ts us rest)
    ∙ ap (λ (o : Parsed (List Column)). o >>= λ columns rest. d.skip rest >>= λ n end. Some (record { schema = columns; skip = n }, end))
    (called-all (codes "schema") (separated d.column_definition) (Separated IsColumnDefinition) (either opens is_comma) columns-complete columns-apart ts columns (us ++ rest) h)
    ∙ ap (λ (o : Parsed ℕ). o >>= λ n end. Some (record { schema = columns; skip = n }, end)) (skip-all us n rest k st)

comma-apart_closing : is_comma (Fixed s.CloseParen) ≡ false
unfolding same_symbol
comma-apart_closing = refl

load-all : (ts : Input) (l : Load) (rest : Input) → IsLoad ts l → stops nothing rest ≡ true → d.load (ts ++ rest) ≡ Some (l, rest)
unfolding d.load same_symbol
load-all _ _ rest (loaded file ts f h) st =
    ap (λ (o : Parsed LoadForm). o >>= λ f end. Some (record { file = file; form = f }, end)) (called-all (codes "csv") d.form IsForm is_comma (record { reads = form-all }) comma-apart_closing ts f rest h)

-- ---- operands

and-false : (b : Bool) → (b && false) ≡ false
and-false true = refl
and-false false = refl

source-all : (ts : Input) (o : Operand) (rest : Input) → IsSource ts o → stops opens rest ≡ true → d.source (ts ++ rest) ≡ Some (o, rest)
unfolding d.source same_symbol
source-all _ _ rest (named_source n) st =
    ap (λ t. cond {A = Parsed Operand} (is_word (codes "load") n && t) (d.called (codes "load") d.load (Name n ∷ rest) >>= λ l rest. Some (operand_of l, rest)) (Some (source.Named n, rest))) (unseen s.OpenParen rest st)
    ∙ ap (λ t. cond {A = Parsed Operand} t (d.called (codes "load") d.load (Name n ∷ rest) >>= λ l rest. Some (operand_of l, rest)) (Some (source.Named n, rest))) (and-false (is_word (codes "load") n))
source-all _ _ rest (scanned_source ts k h) st = ap (λ (r : Parsed Key). r >>= λ k rest. Some (source.Scan k, rest)) (in_parens-all d.key IsKey (is_it s.Colon) key-complete colon-apart ts k rest h)
source-all _ _ rest (loaded_source _ _ (called w ts l is h)) st =
    let all = Name w ∷ Fixed s.OpenParen ∷ (ts ++ Fixed s.CloseParen ∷ []) ++ rest in
    ap (λ t. cond {A = Parsed Operand} (t && true) (d.called (codes "load") d.load all >>= λ l rest. Some (operand_of l, rest)) (name all >>= λ n rest. Some (source.Named n, rest))) is
    ∙ ap (λ (o : Parsed Load). o >>= λ l rest. Some (operand_of l, rest)) (called-all (codes "load") d.load IsLoad nothing (record { reads = load-all }) refl _ l rest (called w ts l is h))

source-complete : Complete d.source IsSource opens
source-complete = record { reads = source-all }

two_sources-all : (ts : Input) (p : Operand × Operand) (rest : Input) → IsTwo ts p → stops opens rest ≡ true → d.two_sources (ts ++ rest) ≡ Some (p, rest)
unfolding d.two_sources same_symbol
two_sources-all _ _ rest (both_sources ts us o p h k) st =
    ap d.two_sources (append_assoc ts (Fixed s.Comma ∷ us) rest)
    ∙ ap (λ (r : Parsed Operand). r >>= λ left rest. expect s.Comma rest >>= λ _ behind. d.source behind >>= λ right end. Some ((left, right), end)) (source-all ts o (Fixed s.Comma ∷ us ++ rest) h refl)
    ∙ ap (λ (r : Parsed Operand). r >>= λ right end. Some ((o, right), end)) (source-all us p rest k st)

-- ---- items

name_behind_as-none : (rest : Input) → stops (is_it s.As) rest ≡ true → name_behind_as rest ≡ Some (None, rest)
name_behind_as-none rest st = ap (λ t. cond t (name (drop 1 rest) >>= λ n end. Some (Some n, end)) (Some (None, rest))) (unseen s.As rest st)

item-all : (ts : Input) (b : FromItem) (rest : Input) → IsItem ts b → stops (either opens (is_it s.As)) rest ≡ true → d.item (ts ++ rest) ≡ Some (b, rest)
unfolding d.item same_symbol
item-all ts _ rest (unaliased _ o h) st =
    ap (λ (r : Parsed Operand). r >>= λ o rest. name_behind_as rest >>= λ alias end. Some (record { source = o; alias = unwrap_or alias (own_name o) }, end)) (source-all ts o rest h (stops-left opens (is_it s.As) rest st))
    ∙ ap (λ (r : Parsed (Option (List ℕ))). r >>= λ alias end. Some (record { source = o; alias = unwrap_or alias (own_name o) }, end)) (name_behind_as-none rest (stops-right opens (is_it s.As) rest st))
item-all _ _ rest (aliased ts o n h) st =
    ap d.item (append_assoc ts (Fixed s.As ∷ Name n ∷ []) rest)
    ∙ ap (λ (r : Parsed Operand). r >>= λ o rest. name_behind_as rest >>= λ alias end. Some (record { source = o; alias = unwrap_or alias (own_name o) }, end)) (source-all ts o (Fixed s.As ∷ Name n ∷ rest) h refl)

item-complete : Complete d.item IsItem (either opens (is_it s.As))
item-complete = record { reads = item-all }

no_item : d.item [] ≡ None
unfolding d.item d.source
no_item = refl

as-apart : either opens (is_it s.As) (Fixed s.Comma) ≡ false
unfolding same_symbol
as-apart = refl

items-complete : Complete (separated d.item) (Separated IsItem) (either (either opens (is_it s.As)) is_comma)
items-complete = separated-complete d.item IsItem (either opens (is_it s.As)) item-complete as-apart (some-from_complete d.item IsItem (either opens (is_it s.As)) item-complete no_item)

-- ---- conditions and emit items

whole_expression-all : (ts : Input) (a : Tree) (rest : Input) → IsExpression ts a → stops past_expression rest ≡ true → d.whole_expression (ts ++ rest) ≡ Some (a, rest)
unfolding d.whole_expression
whole_expression-all ts a rest h st =
    let lens = length-append ts rest in
    ap (λ n. d.expression n (ts ++ rest)) (add-one (length (ts ++ rest))) ∙ expression-read (length (ts ++ rest)) ts a rest (omega arith) h st

pub whole_expression-complete : Complete d.whole_expression IsExpression past_expression
whole_expression-complete = record { reads = whole_expression-all }

-- a condition is read in front of the word `emit`
pub condition-all : (us : Input) (c : Option Tree) (rest : Input) → IsCondition us c → d.condition (us ++ Fixed s.Emit ∷ rest) ≡ Some (c, Fixed s.Emit ∷ rest)
unfolding d.condition same_symbol
condition-all _ _ rest absent = refl
condition-all _ _ rest (present ts e h) = ap (λ (o : Parsed Tree). o >>= λ a rest. Some (Some a, rest)) (whole_expression-all ts e (Fixed s.Emit ∷ rest) h refl)

-- no expression begins with a dot
dot_refused : (inner : Parser Tree) (i : Input) → d.disjunction inner (Fixed s.Dot ∷ i) ≡ None
unfolding d.disjunction d.conjunction d.negation d.comparison d.sum d.product d.signed d.primary same_symbol
dot_refused inner i = refl

expression-refuses_dot : (n : ℕ) (i : Input) → d.expression n (Fixed s.Dot ∷ i) ≡ None
unfolding d.expression
expression-refuses_dot zero i = refl
expression-refuses_dot (suc n) i = dot_refused (d.expression n) i

-- an opening parenthesis begins no expression where none can follow it
open_refused : (inner : Parser Tree) (i : Input) → inner i ≡ None → d.disjunction inner (Fixed s.OpenParen ∷ i) ≡ None
unfolding d.disjunction d.conjunction d.negation d.comparison d.sum d.product d.signed d.primary same_symbol
open_refused inner i h =
    let all = Fixed s.OpenParen ∷ i in
    let primary : d.primary inner all ≡ None = ap (λ (o : Parsed Tree). o >>= λ a rest. expect s.CloseParen rest >>= λ _ end. Some (a, end)) h in
    let product = chain-none g.product_sign (d.signed inner) all primary in
    let sum = chain-none g.sum_sign (d.product inner) all product in
    let comparison = pair-none g.comparison_sign (d.sum inner) all sum in
    let conjunction = chain-none g.and_sign (d.negation inner) all comparison in
    chain-none g.or_sign (d.conjunction inner) all conjunction

-- what isn't read isn't read as anything
unread : {A : Type 0} {p : A × Input} → ◌≡◌ {A = Parsed A} None (Some p) → ⊥
unread e = cc

-- no expression begins with a terminal, a dot and a star, or ends in front of the dot
dotted : (inner : Parser Tree) → ((i : Input) → inner (Fixed s.Dot ∷ i) ≡ None) → (x : Terminal) (i : Input) (a : Tree) (rest : Input)
    → d.disjunction inner (x ∷ Fixed s.Dot ∷ Fixed s.Star ∷ i) ≡ Some (a, rest) → stops is_dot rest ≡ true → ⊥
unfolding d.disjunction d.conjunction d.negation d.comparison d.sum d.product d.signed d.primary same_symbol
dotted inner refuses (Name n) i a rest e st = unread e
dotted inner refuses (Number n) i a rest e st = false≢true (ap (stops is_dot) (same_rest _ a (Fixed s.Dot ∷ Fixed s.Star ∷ i) rest e) ∙ st)
dotted inner refuses (Quoted n) i a rest e st = false≢true (ap (stops is_dot) (same_rest _ a (Fixed s.Dot ∷ Fixed s.Star ∷ i) rest e) ∙ st)
dotted inner refuses (Fixed (Word keyword.True)) i a rest e st = false≢true (ap (stops is_dot) (same_rest _ a (Fixed s.Dot ∷ Fixed s.Star ∷ i) rest e) ∙ st)
dotted inner refuses (Fixed (Word keyword.False)) i a rest e st = false≢true (ap (stops is_dot) (same_rest _ a (Fixed s.Dot ∷ Fixed s.Star ∷ i) rest e) ∙ st)
dotted inner refuses (Fixed (Sign sign.OpenParen)) i a rest e st = unread (sym (open_refused inner (Fixed s.Dot ∷ Fixed s.Star ∷ i) (refuses (Fixed s.Star ∷ i))) ∙ e)
dotted inner refuses (Fixed _) i a rest e st = unread e

-- no expression is read where all columns of an alias are emitted
not_dotted : (n : ℕ) (i : Input) (a : Tree) (rest : Input) → d.expression n i ≡ Some (a, rest) → stops is_dot rest ≡ true → sees s.Dot (drop 1 i) ≡ true → sees s.Star (drop 2 i) ≡ true → ⊥
unfolding d.expression
not_dotted zero i a rest e st dot star = unread e
not_dotted (suc n) [] a rest e st dot star = false≢true dot
not_dotted (suc n) (x ∷ i) a rest e st dot star =
    let is = sees-is s.Dot i dot ∙ ap (λ (ts : Input). Fixed s.Dot ∷ ts) (sees-is s.Star (drop 1 i) star) in
    dotted (d.expression n) (expression-refuses_dot n) x (drop 1 (drop 1 i)) a rest (ap (λ (ts : Input). d.disjunction (d.expression n) (x ∷ ts)) (sym is) ∙ e) st

-- where an expression is read, none of the other emit items is
emit-on : (i : Input) (a : Tree) (rest : Input) → d.whole_expression i ≡ Some (a, rest) → stops is_dot rest ≡ true → d.emit i ≡ d.emitted i
unfolding d.emit d.whole_expression
emit-on i a rest e st = ap (λ t. cond t (Some (tree.All, drop 1 i)) (cond (sees s.Dot (drop 1 i) && sees s.Star (drop 2 i)) (d.emitted_alias i) (d.emitted i))) (no_star (sees s.Star i) refl)
    ∙ ap (λ t. cond t (d.emitted_alias i) (d.emitted i)) (no_alias (sees s.Dot (drop 1 i)) (sees s.Star (drop 2 i)) refl refl)
  where
    no_star : (t : Bool) → sees s.Star i ≡ t → t ≡ false
    no_star false is = refl
    no_star true is = let none = ap (d.expression (length i + 1)) (sees-is s.Star i is) ∙ expression-refuses_star (length i + 1) (drop 1 i) in absurd (cc)

    no_alias : (t u : Bool) → sees s.Dot (drop 1 i) ≡ t → sees s.Star (drop 2 i) ≡ u → (t && u) ≡ false
    no_alias false u is at = refl
    no_alias true false is at = refl
    no_alias true true is at = absurd (not_dotted (length i + 1) i a rest e st is at)

stops-dot : (i : Input) → stops past_expression i ≡ true → stops is_dot i ≡ true
stops-dot i st = stops-left is_dot _ i (stops-left past_product _ i (stops-left past_sum _ i (stops-left past_comparison _ i (stops-left past_conjunction _ i st))))

emit-all : (ts : Input) (b : EmitTree) (rest : Input) → IsEmit ts b → stops (either past_expression (is_it s.As)) rest ≡ true → d.emit (ts ++ rest) ≡ Some (b, rest)
unfolding d.emit d.emitted d.emitted_alias same_symbol
emit-all _ _ rest all_columns st = refl
emit-all _ _ rest (columns_of alias) st = refl
emit-all ts _ rest (unnamed _ e h) st =
    let here = stops-left past_expression (is_it s.As) rest st in
    let whole = whole_expression-all ts e rest h here in
    emit-on (ts ++ rest) e rest whole (stops-dot rest here)
    ∙ ap (λ (o : Parsed Tree). o >>= λ a rest. name_behind_as rest >>= λ n end. Some (tree.One a n, end)) whole
    ∙ ap (λ (o : Parsed (Option (List ℕ))). o >>= λ n end. Some (tree.One e n, end)) (name_behind_as-none rest (stops-right past_expression (is_it s.As) rest st))
emit-all _ _ rest (named ts e n h) st =
    let whole = whole_expression-all ts e (Fixed s.As ∷ Name n ∷ rest) h refl in
    ap d.emit (append_assoc ts (Fixed s.As ∷ Name n ∷ []) rest)
    ∙ emit-on (ts ++ Fixed s.As ∷ Name n ∷ rest) e (Fixed s.As ∷ Name n ∷ rest) whole refl
    ∙ ap (λ (o : Parsed Tree). o >>= λ a rest. name_behind_as rest >>= λ n end. Some (tree.One a n, end)) whole

pub emit-complete : Complete d.emit IsEmit (either past_expression (is_it s.As))
emit-complete = record { reads = emit-all }

no_emit : d.emit [] ≡ None
unfolding d.emit d.emitted d.whole_expression d.expression d.disjunction d.conjunction d.negation d.comparison d.sum d.product d.signed d.primary same_symbol
no_emit = refl

comma-apart : either past_expression (is_it s.As) (Fixed s.Comma) ≡ false
unfolding same_symbol
comma-apart = refl

emits-complete : Complete (separated d.emit) (Separated IsEmit) (either (either past_expression (is_it s.As)) is_comma)
emits-complete =
    separated-complete d.emit IsEmit (either past_expression (is_it s.As)) emit-complete comma-apart (some-from_complete d.emit IsEmit (either past_expression (is_it s.As)) emit-complete no_emit)

-- ---- relation expressions

-- a condition or the word `emit` ends the items
condition-stops : (us : Input) (c : Option Tree) (rest : Input) → IsCondition us c → stops (either (either opens (is_it s.As)) is_comma) (us ++ Fixed s.Emit ∷ rest) ≡ true
unfolding same_symbol
condition-stops _ _ rest absent = refl
condition-stops _ _ rest (present ts e h) = refl

bracketed_emits-all : (vs : Input) (emits : List EmitTree) (rest : Input) → Separated IsEmit vs emits → d.bracketed_emits (Fixed s.Emit ∷ (vs ++ (Fixed s.CloseBracket ∷ rest))) ≡ Some (emits, rest)
unfolding d.bracketed_emits same_symbol
bracketed_emits-all vs emits rest h =
    ap (λ (o : Parsed (List EmitTree)). o >>= λ all rest. expect s.CloseBracket rest >>= λ _ end. Some (all, end)) (emits-complete.reads vs emits (Fixed s.CloseBracket ∷ rest) h refl)

comprehension-all : (ts us vs : Input) (items : List FromItem) (condition : Option Tree) (emits : List EmitTree) (rest : Input) → Separated IsItem ts items → IsCondition us condition → Separated IsEmit vs emits
    → d.comprehension (Fixed s.From ∷ (ts ++ us ++ Fixed s.Emit ∷ vs ++ Fixed s.CloseBracket ∷ []) ++ rest) ≡ Some (tree.From items condition emits, rest)
unfolding d.comprehension same_symbol
comprehension-all ts us vs items condition emits rest h k l =
    ap (λ (i : Input). d.comprehension (Fixed s.From ∷ i)) joined
    ∙ ap (λ (o : Parsed (List FromItem)). o >>= λ from rest. d.condition rest >>= λ where_ rest. d.bracketed_emits rest >>= λ all end. Some (tree.From from where_ all, end))
    (items-complete.reads ts items (us ++ (Fixed s.Emit ∷ (vs ++ (Fixed s.CloseBracket ∷ rest)))) h (condition-stops us condition (vs ++ Fixed s.CloseBracket ∷ rest) k))
    ∙ ap (λ (o : Parsed (Option Tree)). o >>= λ where_ rest. d.bracketed_emits rest >>= λ all end. Some (tree.From items where_ all, end))
    (condition-all us condition (vs ++ Fixed s.CloseBracket ∷ rest) k)
    ∙ ap (λ (o : Parsed (List EmitTree)). o >>= λ all end. Some (tree.From items condition all, end)) (bracketed_emits-all vs emits rest l)
  where
    joined : (((ts ++ us) ++ (Fixed s.Emit ∷ vs)) ++ (Fixed s.CloseBracket ∷ [])) ++ rest ≡ ts ++ (us ++ (Fixed s.Emit ∷ (vs ++ (Fixed s.CloseBracket ∷ rest))))
    joined = simp append_assoc

-- an argument is read in front of the closing parenthesis
argument-all : (word : Keyword) (ts : Input) (b : RelTree) (rest : Input) → IsArgument word ts b → stops (either opens is_comma) rest ≡ true → d.argument word (ts ++ rest) ≡ Some (b, rest)
unfolding d.argument
argument-all _ _ _ rest (g.of_columns ts columns h) st = ap (λ (o : Parsed (List Column)). o >>= λ columns rest. Some (tree.Empty columns, rest)) (columns-complete.reads ts columns rest h st)
argument-all _ _ _ rest (g.of_one ts o h) st = ap (λ (r : Parsed Operand). r >>= λ o rest. Some (tree.Distinct o, rest)) (source-all ts o rest h (stops-left opens is_comma rest st))
argument-all _ _ _ rest (g.of_both ts us o p h k) st =
    ap (λ (r : Parsed (Operand × Operand)). r >>= λ p rest. Some (tree.UnionAll p.0 p.1, rest)) (two_sources-all (ts ++ Fixed s.Comma ∷ us) (o, p) rest (both_sources ts us o p h k) (stops-left opens is_comma rest st))
argument-all _ _ _ rest (g.of_difference ts us o p h k) st =
    ap (λ (r : Parsed (Operand × Operand)). r >>= λ p rest. Some (tree.Diff p.0 p.1, rest)) (two_sources-all (ts ++ Fixed s.Comma ∷ us) (o, p) rest (both_sources ts us o p h k) (stops-left opens is_comma rest st))

argument-called : (word : Keyword) (ts : Input) (b : RelTree) (rest : Input) → IsArgument word ts b → d.relation (Fixed (Word word) ∷ Fixed s.OpenParen ∷ (ts ++ Fixed s.CloseParen ∷ []) ++ rest) ≡ Some (b, rest)
unfolding d.relation
argument-called word ts b rest h = by word ts b h (in_parens-all (d.argument word) (IsArgument word) (either opens is_comma) (record { reads = argument-all word }) columns-apart ts b rest h)
  where
    by : (word : Keyword) (ts : Input) (b : RelTree) → IsArgument word ts b → in_parens (d.argument word) (Fixed s.OpenParen ∷ (ts ++ Fixed s.CloseParen ∷ []) ++ rest) ≡ Some (b, rest)
        → d.relation_by (Some (Word word)) (Fixed (Word word) ∷ Fixed s.OpenParen ∷ (ts ++ Fixed s.CloseParen ∷ []) ++ rest) ≡ Some (b, rest)
    by _ _ _ (g.of_columns _ _ _) e = e
    by _ _ _ (g.of_one _ _ _) e = e
    by _ _ _ (g.of_both _ _ _ _ _ _) e = e
    by _ _ _ (g.of_difference _ _ _ _ _ _) e = e

-- the condition of a comprehension that is behind no bracket ends the piece
condition-end : (us : Input) (c : Option Tree) → IsCondition us c → d.condition us ≡ Some (c, [])
unfolding d.condition same_symbol
condition-end _ _ absent = refl
condition-end _ _ (present ts e h) = ap (λ (o : Parsed Tree). o >>= λ a rest. Some (Some a, rest)) (ap d.whole_expression (sym (append-nil ts)) ∙ whole_expression-all ts e [] h refl)

condition-behind : (us : Input) (c : Option Tree) → IsCondition us c → stops (either (either opens (is_it s.As)) is_comma) us ≡ true
unfolding same_symbol
condition-behind _ _ absent = refl
condition-behind _ _ (present ts e h) = refl

selection-all : (ts us vs : Input) (emits : List EmitTree) (items : List FromItem) (condition : Option Tree) → Separated IsEmit ts emits → Separated IsItem us items → IsCondition vs condition
    → d.selection (ts ++ (Fixed s.From ∷ (us ++ vs))) ≡ Some (tree.From items condition emits, [])
unfolding d.selection same_symbol
selection-all ts us vs emits items condition h k l =
    ap (λ (o : Parsed (List EmitTree)). o >>= λ all rest. expect s.From rest >>= λ _ rest. separated d.item rest >>= λ from rest. d.condition rest >>= λ where_ end. Some (tree.From from where_ all, end))
    (emits-complete.reads ts emits (Fixed s.From ∷ (us ++ vs)) h refl)
    ∙ ap (λ (o : Parsed (List FromItem)). o >>= λ from rest. d.condition rest >>= λ where_ end. Some (tree.From from where_ emits, end)) (items-complete.reads us items vs k (condition-behind vs condition l))
    ∙ ap (λ (o : Parsed (Option Tree)). o >>= λ where_ end. Some (tree.From items where_ emits, end)) (condition-end vs condition l)

selected-all : (word : List ℕ) (ts us vs : Input) (emits : List EmitTree) (items : List FromItem) (condition : Option Tree) → is_word (codes "select") word ≡ true → Separated IsEmit ts emits → Separated IsItem us items
    → IsCondition vs condition → d.relation (Name word ∷ (ts ++ (Fixed s.From ∷ (us ++ vs)))) ≡ Some (tree.From items condition emits, [])
unfolding d.relation d.sees_select
selected-all word ts us vs emits items condition is h k l =
    let behind = ts ++ (Fixed s.From ∷ (us ++ vs)) in
    ap (λ t. cond (t && nat_lt 1 (length (Name word ∷ behind))) (d.selection behind) (d.copied (Name word ∷ behind))) is
    ∙ ap (λ t. cond t (d.selection behind) (d.copied (Name word ∷ behind))) (two ts (us ++ vs))
    ∙ selection-all ts us vs emits items condition h k l
  where
    two : (ts us : Input) → nat_lt 1 (length (Name word ∷ (ts ++ (Fixed s.From ∷ us)))) ≡ true
    two ts us = let lens = length-append ts (Fixed s.From ∷ us) in lt-ltb 1 _ (omega arith)

-- `load` isn't `select`
load-no_select : (word : List ℕ) → is_word (codes "load") word ≡ true → is_word (codes "select") word ≡ false
load-no_select word is =
    let same = (bytes_eq-Decides (str_to_ascii_lowercase word) (codes "load")).0 is in
    ap (λ (ts : List ℕ). bytes_eq ts (codes "select")) same

-- each relation expression is read to the end of its piece
relation-all : (ts : Input) (b : RelTree) → IsRelation ts b → d.relation (ts ++ []) ≡ Some (b, [])
unfolding d.relation d.source d.sees_select same_symbol
relation-all _ _ (g.copied _ _ (named_source n)) =
    ap (λ t. cond t (d.selection []) (d.copied (Name n ∷ []))) (and-false (is_word (codes "select") n))
    ∙ ap (λ (r : Parsed Operand). r >>= λ o rest. Some (tree.Copy o, rest)) (source-all (Name n ∷ []) (source.Named n) [] (named_source n) refl)
relation-all _ _ (g.copied _ _ (scanned_source ts k h)) =
    ap (λ (r : Parsed Operand). r >>= λ o rest. Some (tree.Copy o, rest)) (source-all _ (source.Scan k) [] (scanned_source ts k h) refl)
relation-all _ _ (g.copied _ _ (loaded_source _ _ (called w ts l is h))) =
    let behind = Fixed s.OpenParen ∷ (ts ++ Fixed s.CloseParen ∷ []) ++ [] in
    ap (λ t. cond (t && nat_lt 1 (length (Name w ∷ behind))) (d.selection behind) (d.copied (Name w ∷ behind))) (load-no_select w is)
    ∙ ap (λ (r : Parsed Operand). r >>= λ o rest. Some (tree.Copy o, rest)) (source-all _ (operand_of l) [] (loaded_source _ l (called w ts l is h)) refl)
relation-all _ _ (g.called word ts b h) = argument-called word ts b [] h
relation-all _ _ (g.comprehension ts us vs items condition emits h k l) = comprehension-all ts us vs items condition emits [] h k l
relation-all _ _ (g.selected word ts us vs emits items condition is h k l) =
    ap d.relation (append-nil (Name word ∷ (ts ++ (Fixed s.From ∷ (us ++ vs))))) ∙ selected-all word ts us vs emits items condition is h k l

-- whatever follows goes on with a relation expression
abbrev pub anything : Terminal → Bool
anything x = true

at_end : (rest : Input) → stops anything rest ≡ true → rest ≡ []
at_end [] st = refl
at_end (x ∷ rest) st = absurd (cc)

pub relation-complete : Complete d.relation IsRelation anything
relation-complete = record { reads = λ ts b rest h st. subst (λ (us : Input). d.relation (ts ++ us) ≡ Some (b, us)) (sym (at_end rest st)) (relation-all ts b h) }
