-- What references and emit items mean, computed from the definitions: a wrong place, name or type does not check.
use Rattle.std.proofs.Common.{◌≡◌, true, false, List, [], ◌∷◌, Option, Some, None, option_map, refl}
use Rattle.std.specs.Prelude.{pos, map, codes}
use Rattle.std.specs.Fmt.{digits}
use Rattle.rel_base.specs.declared.relations.Column.{Column}
use Rattle.rel_base.specs.declared.values.ColType.{ColType}
use Rattle.rel_base.specs.declared.values.ColType.TheVariants as kind
use Rattle.rel_base.specs.declared.values.Value.TheVariants as value
use Rattle.myrial_ast.specs.declared.expressions.ColRef.TheVariants as ref
use Rattle.myrial_ast.specs.declared.operators.AggOp.TheVariants as agg
use Rattle.myrial_ast.specs.declared.operators.BinOp.TheVariants as op
use Rattle.myrial_ast.specs.Trees.{Name, EmitTree}
use Rattle.myrial_ast.specs.Trees as tree
use Rattle.myrial_ast.specs.Scalars.{Scalar, Lit, At, Bin}
use Rattle.myrial_scopes.specs.Scopes.{ItemSchema, ScopeColumn, has_doubled_alias, kind_of, place_of, places_of, scalar_of, scope_of}
use Rattle.myrial_scopes.specs.Emits.{Emit, emits_of, schema_of}

-- ---- R as a (x int, y string), S as b (x bool)

abbrev column : Name → ColType → Column
column name kind = record { name = name; kind = kind }

abbrev item : Name → List Column → ItemSchema
item alias schema = record { alias = alias; schema = schema }

abbrev r_columns : List Column
r_columns = column (codes "x") kind.Int ∷ column (codes "y") kind.Str ∷ []

abbrev s_columns : List Column
s_columns = column (codes "x") kind.Bool ∷ []

abbrev two : List ScopeColumn
two = scope_of (item (codes "a") r_columns ∷ item (codes "b") s_columns ∷ [])

-- the second item's column is its first, and the third of all
pub scope-two : two ≡
    record { item = 0; alias = codes "a"; place = 0; name = codes "x"; kind = kind.Int }
    ∷ record { item = 0; alias = codes "a"; place = 1; name = codes "y"; kind = kind.Str }
    ∷ record { item = 1; alias = codes "b"; place = 0; name = codes "x"; kind = kind.Bool } ∷ []
scope-two = refl

-- ---- references

-- a name that two columns have means neither, and one that none has means none
pub places-name_of_two : places_of two (ref.ByName (codes "x")) ≡ 0 ∷ 2 ∷ []
places-name_of_two = refl

pub place-name_of_two : place_of two (ref.ByName (codes "x")) ≡ None
place-name_of_two = refl

pub place-name_of_one : place_of two (ref.ByName (codes "y")) ≡ Some 1
place-name_of_one = refl

pub places-no_name : places_of two (ref.ByName (codes "z")) ≡ []
places-no_name = refl

-- `$i` counts all columns from 0
pub place-number : place_of two (ref.ByPlace 2) ≡ Some 2
place-number = refl

pub place-number_past_the_end : place_of two (ref.ByPlace 3) ≡ None
place-number_past_the_end = refl

-- `b.x` and `b.$0` are the third column
pub place-name_of_item : place_of two (ref.OfName (codes "b") (codes "x")) ≡ Some 2
place-name_of_item = refl

pub place-number_of_item : place_of two (ref.OfPlace (codes "b") 0) ≡ Some 2
place-number_of_item = refl

pub place-number_past_the_item : place_of two (ref.OfPlace (codes "b") 1) ≡ None
place-number_past_the_item = refl

-- ---- one alias for two items

abbrev doubled : List ItemSchema
doubled = item (codes "a") r_columns ∷ item (codes "a") r_columns ∷ []

pub doubled-alias : has_doubled_alias doubled ≡ true
doubled-alias = refl

pub two_aliases : has_doubled_alias (item (codes "a") r_columns ∷ item (codes "b") r_columns ∷ []) ≡ false
two_aliases = refl

-- `a.$1` may be the second column of either, and `a.$2` is in neither, though the two have four columns together
pub places-under_both : places_of (scope_of doubled) (ref.OfPlace (codes "a") 1) ≡ 1 ∷ 3 ∷ []
places-under_both = refl

pub places-under_neither : places_of (scope_of doubled) (ref.OfPlace (codes "a") 2) ≡ []
places-under_neither = refl

-- ---- expressions

pub scalar-sum : scalar_of two (tree.Bin op.Add (tree.Col (ref.ByPlace 0)) (tree.Lit (value.Int (pos 1)))) ≡ Some (Bin op.Add (At 0) (Lit (value.Int (pos 1))))
scalar-sum = refl

-- an aggregate is no part of an expression
pub scalar-aggregate : scalar_of two (tree.Not (tree.AggAll agg.CountAll)) ≡ None
scalar-aggregate = refl

pub kinds-of_scalars : map (kind_of two) (At 1 ∷ Bin op.Add (At 0) (At 0) ∷ Bin op.Eq (At 0) (At 0) ∷ []) ≡ kind.Str ∷ kind.Int ∷ kind.Bool ∷ []
kinds-of_scalars = refl

-- ---- emit items

-- the names and types of what is emitted
abbrev emitted_schema : List EmitTree → Option (List Column)
emitted_schema items = option_map schema_of (emits_of two items)

abbrev emitted_scalars : List EmitTree → Option (List Scalar)
emitted_scalars items = option_map (map (λ (e : Emit). e.scalar)) (emits_of two items)

-- `*` emits every column, and `b.*` those of b
pub emits-all : emitted_scalars (tree.All ∷ []) ≡ Some (At 0 ∷ At 1 ∷ At 2 ∷ [])
emits-all = refl

pub emits-all_of_item : emitted_scalars (tree.AllOf (codes "b") ∷ tree.AllOf (codes "a") ∷ []) ≡ Some (At 2 ∷ At 0 ∷ At 1 ∷ [])
emits-all_of_item = refl

pub schema-all : emitted_schema (tree.All ∷ []) ≡ Some (column (codes "x") kind.Int ∷ column (codes "y") kind.Str ∷ column (codes "x") kind.Bool ∷ [])
schema-all = refl

-- the name behind `as`, a column's own name, or the place in the output; `min(y)` is a string, and `count(*)` a number
pub schema-names : emitted_schema (tree.One (tree.Col (ref.ByPlace 2)) (Some (codes "z")) ∷ tree.One (tree.Col (ref.ByName (codes "y"))) None
    ∷ tree.One (tree.Agg agg.Min (tree.Col (ref.ByName (codes "y")))) None ∷ tree.One (tree.AggAll agg.CountAll) None ∷ [])
    ≡ Some (column (codes "z") kind.Bool ∷ column (codes "y") kind.Str ∷ column (codes "_COLUMN2_") kind.Str ∷ column (codes "_COLUMN3_") kind.Int ∷ [])
unfolding digits
schema-names = refl
