-- A resolved comprehension as the code holds it.
--
--   emit_of column              what an emitted column is
--   resolved_of comprehension   the comprehension, and the schema of what it emits
use Rattle.std.specs.Prelude.{map}
use Rattle.myrial_ast.specs.ScalarTrees.{scalar_tree_of}
use Rattle.myrial_scopes.specs.declared.emits.EmittedColumn.{EmittedColumn}
use Rattle.myrial_scopes.specs.declared.comprehensions.Comprehension.{Comprehension}
use Rattle.myrial_scopes.specs.Emits.{Emit, Resolved, emitting}

-- what an emitted column is: its expression, its aggregate, its name where it has one, and its type
abbrev pub emit_of : EmittedColumn → Emit
emit_of e = record { scalar = scalar_tree_of e.scalar; aggregate = e.aggregate; name = e.name; kind = e.kind }

-- the comprehension, and the schema of what it emits
abbrev pub resolved_of : Comprehension → Resolved
resolved_of c = emitting (map scalar_tree_of c.conjuncts) (map emit_of c.emits.items)
