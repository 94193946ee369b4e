-- What a comprehension emits: its columns, their names and types.
--
--   emits_of scope items          the emitted columns, in order
--   schema_of emits               their names and types
--   resolved scope condition emits     a comprehension with places for its references, and its schema
use Rattle.std.specs.Prelude.{ℕ, true, List, [], ◌∷◌, ◌++◌, map, length, codes, Option, Some, None, option_map, option_and_then, unwrap_or}
use Rattle.std.specs.List.{flat_map, enumerate_from, range_with_len}
use Rattle.std.specs.Fmt.{decimal}
use Rattle.rel_base.specs.Each.{each_or_none}
use Rattle.rel_base.specs.declared.relations.Column.{Column}
use Rattle.rel_base.specs.declared.values.Value.TheVariants as value
use Rattle.rel_base.specs.declared.values.ColType.{ColType}
use Rattle.rel_base.specs.declared.values.ColType.TheVariants as kind
use Rattle.myrial_ast.specs.declared.operators.AggOp.{AggOp}
use Rattle.myrial_ast.specs.declared.operators.AggOp.TheVariants as agg
use Rattle.myrial_ast.specs.Trees.{Name, Tree, EmitTree}
use Rattle.myrial_ast.specs.Trees as tree
use Rattle.myrial_ast.specs.Scalars.{Scalar, Lit, At, conjuncts}
use Rattle.myrial_ast.specs.Combinations.{Comprehension}
use Rattle.myrial_scopes.specs.Scopes.{ScopeColumn, scalar_of, kind_of, column_at, places_under}

-- an emitted column: its expression, the aggregate whose argument that is, its name where it has one, and its type
pub record Emit : Type 0 where
  pub scalar : Scalar
  pub aggregate : Option AggOp
  pub name : Option Name
  pub kind : ColType

-- the column at a place, under its own name
abbrev pub emit_at : List ScopeColumn → ℕ → Emit
emit_at scope place =
    record {
      scalar = At place;
      aggregate = None;
      name = Some (column_at scope place).name;
      kind = (column_at scope place).kind;
    }

-- the type of an aggregate of values of a type
abbrev pub aggregate_kind : AggOp → ColType → ColType
aggregate_kind agg.Min argument = argument
aggregate_kind agg.Max argument = argument
aggregate_kind _ argument = kind.Int

-- an aggregate of an expression
abbrev pub aggregated : List ScopeColumn → AggOp → Scalar → Emit
aggregated scope op e =
    record { scalar = e; aggregate = Some op; name = None; kind = aggregate_kind op (kind_of scope e) }

-- an expression without an aggregate; one that is only a column has that column's name
abbrev pub emit_of_scalar : List ScopeColumn → Scalar → Emit
emit_of_scalar scope (At place) = emit_at scope place
emit_of_scalar scope e =
    record { scalar = e; aggregate = None; name = None; kind = kind_of scope e }

-- what an expression emits: `count(*)` counts rows, whatever stands in its column
abbrev pub emit_of_tree : List ScopeColumn → Tree → Option Emit
emit_of_tree scope (tree.Agg op e) = option_map (aggregated scope op) (scalar_of scope e)
emit_of_tree scope (tree.AggAll op) = Some (aggregated scope op (Lit (value.Bool true)))
emit_of_tree scope e = option_map (emit_of_scalar scope) (scalar_of scope e)

-- under the name behind `as`, where there is one
abbrev pub named : Option Name → Emit → Emit
named (Some name) emit =
    record { scalar = emit.scalar; aggregate = emit.aggregate; name = Some name; kind = emit.kind }
named None emit = emit

-- the columns of an emit item: all, those of an alias, or one
abbrev pub emits_of_item : List ScopeColumn → EmitTree → Option (List Emit)
emits_of_item scope tree.All = Some (map (emit_at scope) (range_with_len 0 (length scope)))
emits_of_item scope (tree.AllOf alias) = Some (map (emit_at scope) (places_under scope alias))
emits_of_item scope (tree.One e name) =
    option_map (λ emit. named name emit ∷ []) (emit_of_tree scope e)

-- the emitted columns, in order
abbrev pub emits_of : List ScopeColumn → List EmitTree → Option (List Emit)
emits_of scope items =
    option_map (flat_map (λ columns. columns)) (each_or_none (emits_of_item scope) items)

-- the name of a column without one, by its place in the output
abbrev pub numbered_name : ℕ → Name
numbered_name place = codes "_COLUMN" ++ decimal place ++ codes "_"

-- the names and types of the emitted columns
abbrev pub schema_of : List Emit → List Column
schema_of emits =
    map (λ (p : ℕ × Emit).
    record { name = unwrap_or p.1.name (numbered_name p.0); kind = p.1.kind })
    (enumerate_from 0 emits)

-- a comprehension with places for its references, and the schema of what it emits
pub record Resolved : Type 0 where
  pub comprehension : Comprehension
  pub schema : List Column

-- the comprehension with these conjuncts that emits these columns, and its schema
abbrev pub emitting : List Scalar → List Emit → Resolved
emitting conjuncts emits = record {
  comprehension = record {
    conjuncts = conjuncts;
    emits = map (λ (e : Emit). e.scalar) emits;
    aggregates = map (λ (e : Emit). e.aggregate) emits;
  };
  schema = schema_of emits;
}

-- the conjuncts of a condition; where there is none, none
abbrev pub conjuncts_of : List ScopeColumn → Option Tree → Option (List Scalar)
conjuncts_of scope None = Some []
conjuncts_of scope (Some condition) = option_map conjuncts (scalar_of scope condition)

-- the comprehension and its schema, if each reference means one column
abbrev pub resolved : List ScopeColumn → Option Tree → List EmitTree → Option Resolved
resolved scope condition emits =
    option_and_then (λ joined. option_map (emitting joined) (emits_of scope emits))
    (conjuncts_of scope condition)
