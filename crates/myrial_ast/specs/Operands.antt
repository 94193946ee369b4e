-- The operands of relation expressions.
--
--   operands_of r             the names, keys and loaded files that a relation expression uses, in order
use Rattle.std.specs.Prelude.{List, [], ◌∷◌, map}
use Rattle.myrial_ast.specs.declared.relations.FromItem.{FromItem}
use Rattle.myrial_ast.specs.declared.relations.Operand.{Operand}
use Rattle.myrial_ast.specs.Trees.{RelTree}
use Rattle.myrial_ast.specs.Trees as tree

-- the names, keys and loaded files that a relation expression uses, in order
abbrev pub operands_of : RelTree → List Operand
operands_of (tree.Copy o) = o ∷ []
operands_of (tree.Empty schema) = []
operands_of (tree.Distinct o) = o ∷ []
operands_of (tree.UnionAll o p) = o ∷ p ∷ []
operands_of (tree.Diff o p) = o ∷ p ∷ []
operands_of (tree.From items condition emits) = map (λ (item : FromItem). item.source) items
