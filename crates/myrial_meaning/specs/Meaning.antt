-- The meaning of a script: what its names and stored keys stand for after each statement.
--
--   RelationEnvironment                the relations of the names that were assigned, and of the keys that were stored
--   relation_of files env r            the relation that a relation expression stands for
--   after files env statement          the environment after a statement
--   stored_relations files script      what the stores of a script store, in their order, each relation known as a bag
use Rattle.std.specs.Prelude.{List, [], map, fold, reverse, Option, Some, option_map, option_and_then}
use Rattle.std.specs.Option.{option_map_or}
use Rattle.rel_base.specs.Each.{each_or_none}
use Rattle.rel_base.specs.Keys.{File}
use Rattle.rel_base.specs.Relations.{RelationState}
use Rattle.myrial_ast.specs.declared.relations.FromItem.{FromItem}
use Rattle.myrial_ast.specs.Trees.{Name, Tree, EmitTree, RelTree, StatementTree}
use Rattle.myrial_ast.specs.Trees as tree
use Rattle.myrial_ast.specs.Bags.{union_all, distinct, difference}
use Rattle.myrial_ast.specs.Combinations.{Rows, listed_rows}
use Rattle.myrial_ast.specs.Groups.{result_rows}
use Rattle.myrial_meaning.specs.Environments.{Environment, nothing_yet, assigned_to, operand_of, with_name, with_key}
use Rattle.myrial_scopes.specs.Scopes.{ItemSchema, scope_of}
use Rattle.myrial_scopes.specs.Emits.{Resolved, resolved}

-- the relations of the names that were assigned, and of the keys that were stored
abbrev pub RelationEnvironment : Type 0
RelationEnvironment = Environment RelationState

-- an item of a comprehension with its relation
pub record ItemRelation : Type 0 where
  pub alias : Name
  pub table : RelationState

abbrev pub item_relation : List File → RelationEnvironment → FromItem → Option ItemRelation
item_relation files env item =
    option_map (λ table. record { alias = item.alias; table = table })
    (operand_of files env item.source)

-- the items' aliases and columns, and their rows
abbrev pub schema_of_item : ItemRelation → ItemSchema
schema_of_item s = record { alias = s.alias; schema = s.table.schema }

abbrev pub items_of : List ItemRelation → List ItemSchema
items_of sources = map schema_of_item sources

abbrev pub tables_of : List ItemRelation → List Rows
tables_of sources = map (λ (s : ItemRelation). s.table.rows) sources

-- what a comprehension stands for
abbrev pub comprehension_rows : Resolved → List Rows → Rows
comprehension_rows b tables =
    result_rows b.comprehension.aggregates (listed_rows b.comprehension tables)

-- the relation of a comprehension over these items
abbrev pub comprehension_over : List ItemRelation → Option Tree → List EmitTree
    → Option RelationState
comprehension_over sources condition emits =
    option_map (λ (b : Resolved).
    record { schema = b.schema; rows = comprehension_rows b (tables_of sources) })
    (resolved (scope_of (items_of sources)) condition emits)

-- a relation made of one, and of two, with the columns of the first
abbrev pub of_one : (Rows → Rows) → Option RelationState → Option RelationState
of_one f a = option_map (λ (t : RelationState). record { schema = t.schema; rows = f t.rows }) a

abbrev pub of_two : (Rows → Rows → Rows) → Option RelationState → Option RelationState
    → Option RelationState
of_two f a b =
    option_and_then (λ (t : RelationState). option_map
    (λ (u : RelationState). record { schema = t.schema; rows = f t.rows u.rows }) b) a

-- the relation that a relation expression stands for
abbrev pub relation_of : List File → RelationEnvironment → RelTree → Option RelationState
relation_of files env (tree.Copy o) = operand_of files env o
relation_of files env (tree.Empty schema) = Some (record { schema = schema; rows = [] })
relation_of files env (tree.Distinct o) = of_one distinct (operand_of files env o)
relation_of files env (tree.UnionAll o p) =
    of_two union_all (operand_of files env o) (operand_of files env p)
relation_of files env (tree.Diff o p) =
    of_two difference (operand_of files env o) (operand_of files env p)
relation_of files env (tree.From items condition emits) =
    option_and_then (λ sources. comprehension_over sources condition emits)
    (each_or_none (item_relation files env) items)

-- the environment after a statement; one that stands for nothing changes nothing
abbrev pub after : List File → RelationEnvironment → StatementTree → RelationEnvironment
after files env tree.Nothing = env
after files env (tree.Assign name r) =
    option_map_or (with_name env name) (relation_of files env r) env
after files env (tree.Store name key) = option_map_or (with_key env key) (assigned_to env name) env

-- what the stores of a script store, in their order
abbrev pub stored_relations : List File → List StatementTree → List File
stored_relations files script = reverse (fold (after files) nothing_yet script).stored
