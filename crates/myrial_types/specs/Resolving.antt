-- What a statement computes once its names are resolved.
--
--   Meant                            what a name, a key or a load stands for: a source and its columns
--   meant files names operand        what an operand stands for: for a name the latest assignment, for a stored key the latest
--                                    store, and else the file; a load has the columns that it writes
--   term_of files names r            the term of a relation expression and its columns, if its operands stand for something
--                                    and each reference means one column
use Rattle.std.specs.Prelude.{ℕ, if◌then◌else◌, List, map, Option, Some, option_map, option_and_then}
use Rattle.std.specs.List.{enumerate_from}
use Rattle.rel_base.specs.Each.{each_or_none}
use Rattle.rel_base.specs.Keys.{File}
use Rattle.rel_base.specs.declared.names.Key.{Key}
use Rattle.rel_base.specs.declared.relations.Column.{Column}
use Rattle.rel_base.specs.declared.values.ColType.{ColType}
use Rattle.myrial_ast.specs.declared.relations.FromItem.{FromItem}
use Rattle.myrial_ast.specs.declared.relations.Operand.{Operand}
use Rattle.myrial_ast.specs.declared.relations.Operand.TheVariants as operand
use Rattle.myrial_ast.specs.Trees.{Name, Tree, EmitTree, RelTree}
use Rattle.myrial_ast.specs.Trees as tree
use Rattle.myrial_ast.specs.Groups.{has_aggregate}
use Rattle.myrial_ast.specs.Combinations.{Comprehension}
use Rattle.myrial_scopes.specs.Scopes.{ItemSchema, scope_of}
use Rattle.myrial_scopes.specs.Emits.{Resolved, resolved}
use Rattle.myrial_meaning.specs.Environments.{Environment, operand_of}
use Rattle.algebra.specs.declared.terms.Source.{Source}
use Rattle.algebra.specs.declared.terms.Source.TheVariants as source
use Rattle.algebra.specs.Trees.{TermTree, Same, Empty, UnionAll, Diff, Distinct, Join, Group}
use Rattle.algebra.specs.Shapes.{shape_of}
use Rattle.algebra.specs.Conditions.{kinds_of_columns}

-- what a name, a key or a load stands for: a source, and its columns
pub record Meant : Type 0 where
  pub source : Source
  pub schema : List Column

-- what the names that were assigned and the keys that were stored stand for
abbrev pub Names : Type 0
Names = Environment Meant

-- a file, which stands at this place
abbrev pub file_meant : ℕ × File → Key × Meant
file_meant p = (p.1.0, record { source = source.File p.0; schema = p.1.1.schema })

-- the files, by their places
abbrev pub files_meant : List File → List (Key × Meant)
files_meant files = map file_meant (enumerate_from 0 files)

-- a load has the columns that it writes
abbrev pub as_written : Operand → Meant → Meant
as_written (operand.Load name schema skip) m = record { source = m.source; schema = schema }
as_written _ m = m

-- what an operand stands for
abbrev pub meant : List File → Names → Operand → Option Meant
meant files names o = option_map (as_written o) (operand_of (files_meant files) names o)

-- a term and the columns of its result
pub record Typed : Type 0 where
  pub term : TermTree
  pub schema : List Column

-- a term of one operand, and one of two, with the columns of the first
abbrev pub of_one : (Source → TermTree) → Option Meant → Option Typed
of_one term a = option_map (λ (m : Meant). record { term = term m.source; schema = m.schema }) a

abbrev pub of_two : (Source → Source → TermTree) → Option Meant → Option Meant → Option Typed
of_two term a b =
    option_and_then (λ (m : Meant). option_map
    (λ (o : Meant). record { term = term m.source o.source; schema = m.schema }) b) a

-- an item of a comprehension: its alias, and what its operand stands for
pub record MeantItem : Type 0 where
  pub alias : Name
  pub meant : Meant

-- an item, if its operand stands for something
abbrev pub item_meant : List File → Names → FromItem → Option MeantItem
item_meant files names item =
    option_map (λ m. record { alias = item.alias; meant = m }) (meant files names item.source)

-- the aliases and columns of items, the types of their columns, and their sources
abbrev pub schemas_of : List MeantItem → List ItemSchema
schemas_of items =
    map (λ (i : MeantItem). record { alias = i.alias; schema = i.meant.schema }) items

abbrev pub kinds_of_items : List MeantItem → List (List ColType)
kinds_of_items items = map (λ (i : MeantItem). kinds_of_columns i.meant.schema) items

abbrev pub sources_of : List MeantItem → List Source
sources_of items = map (λ (i : MeantItem). i.meant.source) items

-- the term of a comprehension over sources with columns of these types: rows are grouped where an aggregate is emitted
abbrev pub join_term : List (List ColType) → List Source → Comprehension → TermTree
join_term kinds sources c =
    if has_aggregate c.aggregates then Group (shape_of kinds c) sources c.aggregates
    else Join (shape_of kinds c) sources

-- the term of a comprehension over these items, if each reference means one column
abbrev pub comprehension_term : List MeantItem → Option Tree → List EmitTree → Option Typed
comprehension_term items condition emits =
    option_map (λ (r : Resolved).
    record {
      term = join_term (kinds_of_items items) (sources_of items) r.comprehension;
      schema = r.schema;
    })
    (resolved (scope_of (schemas_of items)) condition emits)

-- the term of a relation expression, and its columns
abbrev pub term_of : List File → Names → RelTree → Option Typed
term_of files names (tree.Copy o) = of_one Same (meant files names o)
term_of files names (tree.Empty schema) = Some (record { term = Empty; schema = schema })
term_of files names (tree.Distinct o) = of_one Distinct (meant files names o)
term_of files names (tree.UnionAll o p) =
    of_two UnionAll (meant files names o) (meant files names p)
term_of files names (tree.Diff o p) = of_two Diff (meant files names o) (meant files names p)
term_of files names (tree.From items condition emits) =
    option_and_then (λ given. comprehension_term given condition emits)
    (each_or_none (item_meant files names) items)
