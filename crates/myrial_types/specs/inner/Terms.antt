-- Terms and comprehensions as the code makes them.
--
--   typed_tree_of typed           the tree of a term, and the columns of its result
--   bare_atoms kinds              atoms without keeps
--   items_kind items condition emits   the first kind of a comprehension over these items
--   one_operand, two_operands     a relation expression of one operand, and of two
use Rattle.std.specs.Prelude.{Bool, true, false, List, [], map, Option}
use Rattle.std.specs.Option.{option_or}
use Rattle.rel_base.specs.declared.values.ColType.{ColType}
use Rattle.myrial_ast.specs.declared.relations.Operand.{Operand}
use Rattle.myrial_ast.specs.Trees.{Tree, EmitTree, RelTree}
use Rattle.myrial_ast.specs.Trees as tree
use Rattle.algebra.specs.CheckedTrees.{term_tree_of}
use Rattle.algebra.specs.Trees.{AtomTree}
use Rattle.myrial_types.specs.declared.checking.Typed as code
use Rattle.myrial_types.specs.declared.faults.TypeKind.{TypeKind}
use Rattle.myrial_types.specs.Kinds.{comprehension_kind, limit_kind}
use Rattle.myrial_types.specs.Resolving.{MeantItem, Typed, comprehension_term, schemas_of}

-- the tree of a term, and the columns of its result
abbrev pub typed_tree_of : code.Typed → Typed
typed_tree_of t = record { term = term_tree_of t.term; schema = t.schema }

-- atoms over columns of these types, without keeps
abbrev pub bare_atoms : List (List ColType) → List AtomTree
bare_atoms kinds = map (λ own. record { kinds = own; keeps = [] }) kinds

-- the first kind of a comprehension over these items, its limits among them
abbrev pub items_kind : List MeantItem → Option Tree → List EmitTree → Option TypeKind
items_kind items condition emits =
    option_or (comprehension_kind (schemas_of items) condition emits)
    (limit_kind (comprehension_term items condition emits))

-- a relation expression of one operand, and of two
abbrev pub one_operand : Bool → Operand → RelTree
one_operand true o = tree.Distinct o
one_operand false o = tree.Copy o

abbrev pub two_operands : Bool → Operand → Operand → RelTree
two_operands true o p = tree.UnionAll o p
two_operands false o p = tree.Diff o p
