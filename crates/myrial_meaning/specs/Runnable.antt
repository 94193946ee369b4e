-- When a script has a meaning.
--
--   operands_fit files env r     the operands of a `unionall` or a `diff` have columns of the same types
--   has_meaning files script     each relation expression stands for a relation of operands that fit, and each stored name is assigned
use Rattle.std.specs.Prelude.{Bool, true, ◌&&◌, List, [], ◌∷◌, Option, is_some}
use Rattle.std.specs.Option.{option_map_or}
use Rattle.rel_base.specs.Keys.{File}
use Rattle.rel_base.specs.Relations.{RelationState}
use Rattle.rel_base.specs.declared.values.ColType.{ColType}
use Rattle.myrial_ast.specs.declared.relations.Operand.{Operand}
use Rattle.myrial_ast.specs.Trees.{RelTree, StatementTree}
use Rattle.myrial_ast.specs.Trees as tree
use Rattle.algebra.specs.Conditions.{kinds_of_columns, same_kinds}
use Rattle.myrial_meaning.specs.Environments.{nothing_yet, assigned_to, operand_of}
use Rattle.myrial_meaning.specs.Meaning.{RelationEnvironment, relation_of, after}

-- the types of the columns of a relation; where there is none, there are none
abbrev pub kinds_of_relation : Option RelationState → List ColType
kinds_of_relation found = option_map_or (λ (t : RelationState). kinds_of_columns t.schema) found []

-- whether two operands have columns of the same types
abbrev pub have_same_kinds : List File → RelationEnvironment → Operand → Operand → Bool
have_same_kinds files env o p =
    same_kinds (kinds_of_relation (operand_of files env o))
    (kinds_of_relation (operand_of files env p))

-- whether the operands of a relation expression have columns of the same types, where they have to
abbrev pub operands_fit : List File → RelationEnvironment → RelTree → Bool
operands_fit files env (tree.UnionAll o p) = have_same_kinds files env o p
operands_fit files env (tree.Diff o p) = have_same_kinds files env o p
operands_fit files env _ = true

-- whether a statement stands for something
abbrev pub is_defined : List File → RelationEnvironment → StatementTree → Bool
is_defined files env tree.Nothing = true
is_defined files env (tree.Assign name r) =
    is_some (relation_of files env r) && operands_fit files env r
is_defined files env (tree.Store name key) = is_some (assigned_to env name)

-- whether each statement of the rest stands for something
abbrev pub all_defined : List File → RelationEnvironment → List StatementTree → Bool
all_defined files env [] = true
all_defined files env (s ∷ rest) =
    is_defined files env s && all_defined files (after files env s) rest

-- whether each statement of the script stands for something
abbrev pub has_meaning : List File → List StatementTree → Bool
has_meaning files script = all_defined files nothing_yet script
