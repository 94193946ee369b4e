-- Which statements are typed, and the first kind of fault of one that isn't.
--
-- Each kind is looked for in the whole statement before the next kind: a later one is read only where the earlier ones
-- don't hold, and what it reads of a statement is total, so that no kind needs a premise.
--
--   has_unknown_alias, has_unknown_column, has_ambiguous_column, has_mismatch, has_misplaced     of a comprehension
--   is_past_limit typed             of the term of a statement and its columns
--   first_kind files names earlier s   the first kind that a statement has, if it has one
use Rattle.std.specs.Prelude.{ℕ, ◌==◌, Bool, true, false, ◌||◌, not, nat_lt, if◌then◌else◌, List, [], ◌∷◌, ◌++◌, length, Option, Some, None, is_none, option_map}
use Rattle.std.specs.List.{flat_map, list_any}
use Rattle.std.specs.Option.{option_map_or, option_or}
use Rattle.rel_base.specs.Each.{each_or_none}
use Rattle.rel_base.specs.Keys.{File}
use Rattle.rel_base.specs.Limits.{most_columns}
use Rattle.rel_base.specs.Relations.{type_of}
use Rattle.rel_base.specs.declared.values.ColType.{ColType}
use Rattle.rel_base.specs.declared.values.ColType.TheVariants as kind
use Rattle.myrial_ast.specs.declared.expressions.ColRef.{ColRef}
use Rattle.myrial_ast.specs.declared.expressions.ColRef.TheVariants as ref
use Rattle.myrial_ast.specs.declared.operators.AggOp.{AggOp}
use Rattle.myrial_ast.specs.declared.operators.AggOp.TheVariants as agg
use Rattle.myrial_ast.specs.declared.relations.Operand.{Operand}
use Rattle.myrial_ast.specs.Operands.{operands_of}
use Rattle.myrial_ast.specs.Trees.{Name, Tree, EmitTree, RelTree, StatementTree}
use Rattle.myrial_ast.specs.Trees as tree
use Rattle.myrial_scopes.specs.Scopes.{ItemSchema, ScopeColumn, scope_of, place_of, places_of, column_at, is_alias, has_doubled_alias}
use Rattle.myrial_meaning.specs.Environments.{assigned_to}
use Rattle.algebra.specs.ShapeConditions.{kind_of_op, where_both, is_kind, is_shape}
use Rattle.algebra.specs.Conditions.{kinds_of_columns, same_kinds}
use Rattle.algebra.specs.Trees.{TermTree, Join, Group}
use Rattle.myrial_types.specs.declared.faults.TypeKind.{TypeKind}
use Rattle.myrial_types.specs.declared.faults.TypeKind.TheVariants as fault
use Rattle.myrial_meaning.specs.Fetches.{Load, loads_in}
use Rattle.myrial_types.specs.Fetching.{has_conflict}
use Rattle.myrial_types.specs.Resolving.{Meant, Names, Typed, meant, item_meant, schemas_of, term_of}

-- ---- expressions

-- the references of an expression, from left to right, also inside aggregates
abbrev pub references : Tree → List ColRef
references (tree.Lit v) = []
references (tree.Col c) = c ∷ []
references (tree.Not e) = references e
references (tree.Neg e) = references e
references (tree.Bin o l r) = references l ++ references r
references (tree.Agg o e) = references e
references (tree.AggAll o) = []

-- the alias before the `.` of a reference
abbrev pub alias_of : ColRef → Option Name
alias_of (ref.OfName alias name) = Some alias
alias_of (ref.OfPlace alias place) = Some alias
alias_of _ = None

-- the type of an aggregate of values of a type, if it can have one
abbrev pub aggregate_type : AggOp → Option ColType → Option ColType
aggregate_type agg.Sum k = where_both kind.Int kind.Int k k
aggregate_type agg.Min k = k
aggregate_type agg.Max k = k
aggregate_type _ k = option_map (λ t. kind.Int) k

-- the type of an expression, if all its parts have the types that they need; an aggregate without an argument is one over `true`
abbrev pub tree_kind : List ScopeColumn → Tree → Option ColType
tree_kind scope (tree.Lit v) = Some (type_of v)
tree_kind scope (tree.Col c) = option_map (λ place. (column_at scope place).kind) (place_of scope c)
tree_kind scope (tree.Not e) =
    where_both kind.Bool kind.Bool (tree_kind scope e) (tree_kind scope e)
tree_kind scope (tree.Neg e) = where_both kind.Int kind.Int (tree_kind scope e) (tree_kind scope e)
tree_kind scope (tree.Bin o l r) = kind_of_op o (tree_kind scope l) (tree_kind scope r)
tree_kind scope (tree.Agg o e) = aggregate_type o (tree_kind scope e)
tree_kind scope (tree.AggAll o) = aggregate_type o (Some kind.Bool)

-- whether an aggregate stands in an expression
abbrev pub has_any_aggregate : Tree → Bool
has_any_aggregate (tree.Lit v) = false
has_any_aggregate (tree.Col c) = false
has_any_aggregate (tree.Not e) = has_any_aggregate e
has_any_aggregate (tree.Neg e) = has_any_aggregate e
has_any_aggregate (tree.Bin o l r) = has_any_aggregate l || has_any_aggregate r
has_any_aggregate (tree.Agg o e) = true
has_any_aggregate (tree.AggAll o) = true

-- whether an aggregate stands inside of an expression, other than as the whole of it
abbrev pub has_inner_aggregate : Tree → Bool
has_inner_aggregate (tree.Agg o e) = has_any_aggregate e
has_inner_aggregate (tree.AggAll o) = false
has_inner_aggregate e = has_any_aggregate e

-- ---- comprehensions over known items

-- the expression of an emit item that is one
abbrev pub emitted_tree : EmitTree → List Tree
emitted_tree (tree.One e name) = e ∷ []
emitted_tree _ = []

-- the alias of an emit item `T.*`
abbrev pub emitted_alias : EmitTree → List Name
emitted_alias (tree.AllOf alias) = alias ∷ []
emitted_alias _ = []

-- the condition, where there is one
abbrev pub condition_trees : Option Tree → List Tree
condition_trees None = []
condition_trees (Some e) = e ∷ []

-- the expressions of a comprehension: its condition and what it emits
abbrev pub trees_in : Option Tree → List EmitTree → List Tree
trees_in condition emits = condition_trees condition ++ flat_map emitted_tree emits

-- the references of a comprehension
abbrev pub references_in : Option Tree → List EmitTree → List ColRef
references_in condition emits = flat_map references (trees_in condition emits)

-- whether the alias of a reference is that of no item
abbrev pub is_unknown_behind : List ItemSchema → ColRef → Bool
is_unknown_behind items r = option_map_or (λ alias. not (is_alias items alias)) (alias_of r) false

-- a name before a `.` is no alias
abbrev pub has_unknown_alias : List ItemSchema → Option Tree → List EmitTree → Bool
has_unknown_alias items condition emits =
    list_any (is_unknown_behind items) (references_in condition emits)
    || list_any (λ alias. not (is_alias items alias)) (flat_map emitted_alias emits)

-- how many columns a reference may mean
abbrev pub meanings_of : List ItemSchema → ColRef → ℕ
meanings_of items r = length (places_of (scope_of items) r)

-- a reference means no column
abbrev pub has_unknown_column : List ItemSchema → Option Tree → List EmitTree → Bool
has_unknown_column items condition emits =
    list_any (λ r. meanings_of items r == 0) (references_in condition emits)

-- a reference may mean two columns, or two items have one alias
abbrev pub has_ambiguous_column : List ItemSchema → Option Tree → List EmitTree → Bool
has_ambiguous_column items condition emits =
    list_any (λ r. nat_lt 1 (meanings_of items r)) (references_in condition emits)
    || has_doubled_alias items

-- an expression has no type, or the condition is no boolean
abbrev pub has_mismatch : List ItemSchema → Option Tree → List EmitTree → Bool
has_mismatch items condition emits =
    list_any (λ e. is_none (tree_kind (scope_of items) e)) (trees_in condition emits)
    || list_any (λ e. not (is_kind kind.Bool (tree_kind (scope_of items) e)))
    (condition_trees condition)

-- an aggregate is no whole emit item
abbrev pub has_misplaced : Option Tree → List EmitTree → Bool
has_misplaced condition emits =
    list_any has_any_aggregate (condition_trees condition)
    || list_any has_inner_aggregate (flat_map emitted_tree emits)

-- the first kind of those that a comprehension has
abbrev pub first_of : Bool → Bool → Bool → Bool → Bool → Option TypeKind
first_of unknown_relation unknown_column ambiguous mismatch misplaced =
    if unknown_relation then Some fault.UnknownRelation
    else if unknown_column then Some fault.UnknownColumn
    else if ambiguous then Some fault.AmbiguousColumn
    else if mismatch then Some fault.TypeMismatch
    else if misplaced then Some fault.Misplaced
    else None

-- the first kind of a comprehension over these items, before its limits
abbrev pub comprehension_kind : List ItemSchema → Option Tree → List EmitTree → Option TypeKind
comprehension_kind items condition emits =
    first_of (has_unknown_alias items condition emits) (has_unknown_column items condition emits)
    (has_ambiguous_column items condition emits) (has_mismatch items condition emits)
    (has_misplaced condition emits)

-- ---- relation expressions

-- the types of an operand's columns; one that isn't known has none
abbrev pub operand_kinds : List File → Names → Operand → List ColType
operand_kinds files names o =
    option_map_or (λ (m : Meant). kinds_of_columns m.schema) (meant files names o) []

-- whether two operands have unequal lists of column types
abbrev pub differ : List File → Names → Operand → Operand → Bool
differ files names o p =
    not (same_kinds (operand_kinds files names o) (operand_kinds files names p))

-- whether an operand stands for nothing
abbrev pub is_unknown : List File → Names → Operand → Bool
is_unknown files names o = is_none (meant files names o)

-- whether the join of a term has no well-formed shape
abbrev pub is_term_past_limit : TermTree → Bool
is_term_past_limit (Join shape sources) = not (is_shape shape)
is_term_past_limit (Group shape sources kinds) = not (is_shape shape)
is_term_past_limit _ = false

-- more than 16 output columns, or more than 8 join variables; a tree that no text gives may have no column at all
abbrev pub is_past_limit : Typed → Bool
is_past_limit t =
    nat_lt most_columns (length t.schema) || length t.schema == 0 || is_term_past_limit t.term

-- the first kind of a relation expression over known operands, before its limits
abbrev pub relation_kind : List File → Names → RelTree → Option TypeKind
relation_kind files names (tree.UnionAll o p) =
    if differ files names o p then Some fault.TypeMismatch else None
relation_kind files names (tree.Diff o p) =
    if differ files names o p then Some fault.TypeMismatch else None
relation_kind files names (tree.From items condition emits) =
    option_map_or (λ given. comprehension_kind (schemas_of given) condition emits)
    (each_or_none (item_meant files names) items) None
relation_kind files names _ = None

-- the limits are the last that is looked at
abbrev pub limit_kind : Option Typed → Option TypeKind
limit_kind typed = if option_map_or is_past_limit typed false then Some fault.Limit else None

-- the first kind of a relation expression, whatever its loads are
abbrev pub typing_kind : List File → Names → RelTree → Option TypeKind
typing_kind files names r =
    if list_any (is_unknown files names) (operands_of r) then Some fault.UnknownRelation
    else option_or (relation_kind files names r) (limit_kind (term_of files names r))

-- ---- statements

-- the kind of a store: its name isn't assigned
abbrev pub store_kind : Names → Name → Option TypeKind
store_kind names name =
    if is_none (assigned_to names name) then Some fault.UnknownRelation else None

-- the first kind of fault of a statement behind these loads, where names and keys stand for these
abbrev pub first_kind : List File → Names → List Load → StatementTree → Option TypeKind
first_kind files names earlier tree.Nothing = None
first_kind files names earlier (tree.Store name key) = store_kind names name
first_kind files names earlier (tree.Assign name r) =
    option_or (typing_kind files names r)
    (if has_conflict earlier (loads_in (tree.Assign name r)) then Some fault.LoadConflict else None)
