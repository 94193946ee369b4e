-- The columns that names and stored keys have, whatever rows they stand for.
--
--   bare table                     the columns of a relation, without its rows
--   columns_of_two a b             the columns of the first of two relations
--   declared files env statement   the environment after a statement, which keeps no row of what it stands for
use Rattle.std.specs.Prelude.{Bool, true, ◌&&◌, List, [], ◌∷◌, Option, option_map, option_and_then}
use Rattle.std.specs.Option.{option_map_or}
use Rattle.rel_base.specs.Keys.{File}
use Rattle.rel_base.specs.declared.relations.Column.{Column}
use Rattle.rel_base.specs.Relations.{RelationState}
use Rattle.myrial_ast.specs.Trees.{StatementTree}
use Rattle.myrial_ast.specs.Trees as tree
use Rattle.myrial_meaning.specs.Environments.{assigned_to, with_key, with_name}
use Rattle.myrial_meaning.specs.Meaning.{RelationEnvironment, relation_of}
use Rattle.myrial_meaning.specs.Runnable.{is_defined}

-- the columns of a relation, without its rows
abbrev pub bare : RelationState → RelationState
bare t = record { schema = t.schema; rows = [] }

-- the columns of the first of two relations, if there are both
abbrev pub columns_of_two : Option RelationState → Option RelationState → Option (List Column)
columns_of_two a b =
    option_and_then (λ (t : RelationState). option_map (λ (u : RelationState). t.schema) b) a

-- the environment after a statement, with the columns alone
abbrev pub declared : List File → RelationEnvironment → StatementTree → RelationEnvironment
declared files env tree.Nothing = env
declared files env (tree.Assign name r) =
    option_map_or (λ (t : RelationState). with_name env name (bare t)) (relation_of files env r) env
declared files env (tree.Store name key) =
    option_map_or (λ (t : RelationState). with_key env key (bare t)) (assigned_to env name) env

-- whether each statement of the rest stands for something, told from columns alone
abbrev pub all_declared : List File → RelationEnvironment → List StatementTree → Bool
all_declared files env [] = true
all_declared files env (s ∷ rest) =
    is_defined files env s && all_declared files (declared files env s) rest
