-- What names mean inside a comprehension.
--
--   scope_of items                the columns of all items, in order, each with its item and its place there
--   places_of scope reference     the places in the combined row that a reference may mean: none where it is unknown, two or
--                                 more where it is ambiguous
--   has_doubled_alias items       two items have one alias, which is ambiguous by itself
--   place_of scope reference      the place that a reference means, where there is just one
--   scalar_of scope e             the expression with places for its references, if each means one column
--   kind_of scope e               the type of its values
use Rattle.std.specs.Prelude.{ℕ, Bool, false, ◌&&◌, ◌||◌, ◌==◌, nat_eq, if◌then◌else◌, List, [], ◌∷◌, map, filter, slice_index_or, Option, Some, None, option_map, option_and_then}
use Rattle.std.specs.List.{flat_map, enumerate_from, list_any}
use Rattle.std.specs.Cmp.Lexicographic.{pointwise}
use Rattle.rel_base.specs.Relations.{type_of}
use Rattle.rel_base.specs.declared.relations.Column.{Column}
use Rattle.rel_base.specs.declared.values.ColType.{ColType}
use Rattle.rel_base.specs.declared.values.ColType.TheVariants as kind
use Rattle.myrial_ast.specs.declared.expressions.ColRef.{ColRef}
use Rattle.myrial_ast.specs.declared.expressions.ColRef.TheVariants as ref
use Rattle.myrial_ast.specs.Trees.{Name, Tree}
use Rattle.myrial_ast.specs.Trees as tree
use Rattle.myrial_ast.specs.Scalars.{Scalar, Lit, At, Not, Neg, Bin, is_arithmetic}

-- an item of a comprehension: its alias, and the columns of its relation
pub record ItemSchema : Type 0 where
  pub alias : Name
  pub schema : List Column

-- a column in scope: the number and the alias of its item, its place in the item, its name and its type
pub record ScopeColumn : Type 0 where
  pub item : ℕ
  pub alias : Name
  pub place : ℕ
  pub name : Name
  pub kind : ColType

-- a column in scope, that of an item of this number at a place of the item
abbrev pub scoped : ℕ → Name → ℕ → Column → ScopeColumn
scoped number alias place column =
    record { item = number; alias = alias; place = place; name = column.name; kind = column.kind }

-- the columns of an item of this number
abbrev pub columns_of : ℕ → ItemSchema → List ScopeColumn
columns_of number item =
    map (λ (p : ℕ × Column). scoped number item.alias p.0 p.1) (enumerate_from 0 item.schema)

-- the columns of all items, in the order of the combined row
abbrev pub scope_of : List ItemSchema → List ScopeColumn
scope_of items = flat_map (λ (p : ℕ × ItemSchema). columns_of p.0 p.1) (enumerate_from 0 items)

-- whether two names are one
abbrev pub same_name : Name → Name → Bool
same_name = pointwise nat_eq

-- whether an item has this alias
abbrev pub is_alias : List ItemSchema → Name → Bool
is_alias items alias = list_any (λ (item : ItemSchema). same_name item.alias alias) items

-- whether two items have one alias
abbrev pub has_doubled_alias : List ItemSchema → Bool
has_doubled_alias [] = false
has_doubled_alias (item ∷ items) = is_alias items item.alias || has_doubled_alias items

-- whether a reference may mean the column at a place of the combined row. Behind an alias, `$i` is a place in the item
abbrev pub may_mean : ColRef → ℕ → ScopeColumn → Bool
may_mean (ref.ByName name) place c = same_name c.name name
may_mean (ref.ByPlace given) place c = place == given
may_mean (ref.OfName alias name) place c = same_name c.alias alias && same_name c.name name
may_mean (ref.OfPlace alias given) place c = same_name c.alias alias && c.place == given

-- the places, from 0, of those that pass
abbrev pub places_where : {X : Type 0} → (ℕ → X → Bool) → List X → List ℕ
places_where {X} test xs =
    map (λ (p : ℕ × X). p.0) (filter (λ (p : ℕ × X). test p.0 p.1) (enumerate_from 0 xs))

-- the places that a reference may mean
abbrev pub places_of : List ScopeColumn → ColRef → List ℕ
places_of scope reference = places_where (may_mean reference) scope

-- the places of the columns of the items with this alias
abbrev pub places_under : List ScopeColumn → Name → List ℕ
places_under scope alias = places_where (λ place c. same_name c.alias alias) scope

-- the place, where there is just one
abbrev pub only : List ℕ → Option ℕ
only (place ∷ []) = Some place
only _ = None

-- the place that a reference means, where there is just one
abbrev pub place_of : List ScopeColumn → ColRef → Option ℕ
place_of scope reference = only (places_of scope reference)

-- the expression with places for its references; an aggregate has none
abbrev pub scalar_of : List ScopeColumn → Tree → Option Scalar
scalar_of scope (tree.Lit value) = Some (Lit value)
scalar_of scope (tree.Col column) = option_map At (place_of scope column)
scalar_of scope (tree.Not e) = option_map Not (scalar_of scope e)
scalar_of scope (tree.Neg e) = option_map Neg (scalar_of scope e)
scalar_of scope (tree.Bin op l r) =
    option_and_then (λ left. option_map (λ right. Bin op left right) (scalar_of scope r)) (scalar_of scope l)
scalar_of scope (tree.Agg op e) = None
scalar_of scope (tree.AggAll op) = None

-- the column at a place; past the end a nameless one
abbrev pub column_at : List ScopeColumn → ℕ → ScopeColumn
column_at scope place =
    slice_index_or scope place
    (record { item = 0; alias = []; place = 0; name = []; kind = kind.Int })

-- the type of an expression's values
abbrev pub kind_of : List ScopeColumn → Scalar → ColType
kind_of scope (Lit value) = type_of value
kind_of scope (At place) = (column_at scope place).kind
kind_of scope (Not e) = kind.Bool
kind_of scope (Neg e) = kind.Int
kind_of scope (Bin op l r) = if is_arithmetic op then kind.Int else kind.Bool
