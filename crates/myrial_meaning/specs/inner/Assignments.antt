-- The relations that the evaluator holds.
--
--   table_of held                 the relation that is held
--   assignment_of assignment      a name with its relation
use Rattle.rel_base.specs.Relations.{RelationState}
use Rattle.myrial_ast.specs.Trees.{Name}
use Rattle.myrial_meaning.specs.declared.holding.Held.{Held}
use Rattle.myrial_meaning.specs.declared.holding.Held.TheVariants as held
use Rattle.myrial_meaning.specs.declared.holding.Assignment.{Assignment}

-- the relation that is held, lent or made
abbrev pub table_of : Held → RelationState
table_of (held.Lent lent) = lent.now
table_of (held.Made made) = made

-- a name with its relation
abbrev pub assignment_of : Assignment → Name × RelationState
assignment_of a = (a.name.now, table_of a.held)
