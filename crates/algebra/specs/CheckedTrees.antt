-- The trees of terms, steps and checked scripts.
--
--   term_tree_of term           the tree of a term
--   step_tree_of step           that of a step
--   checked_tree_of checked     that of a checked script
use Rattle.std.specs.Prelude.{map}
use Rattle.algebra.specs.declared.terms.Term.{Term}
use Rattle.algebra.specs.declared.terms.Term.TheVariants as term
use Rattle.algebra.specs.declared.terms.Step.{Step}
use Rattle.algebra.specs.declared.terms.Checked.{Checked}
use Rattle.algebra.specs.ShapeTrees.{shape_tree_of}
use Rattle.algebra.specs.Trees.{TermTree, Same, Empty, UnionAll, Diff, Distinct, Join, Group, StepTree, CheckedTree, kind_of_emit}

-- the tree of a term
abbrev pub term_tree_of : Term → TermTree
term_tree_of (term.Same s) = Same s
term_tree_of term.Empty = Empty
term_tree_of (term.UnionAll s t) = UnionAll s t
term_tree_of (term.Diff s t) = Diff s t
term_tree_of (term.Distinct s) = Distinct s
term_tree_of (term.Join shape sources) = Join (shape_tree_of shape) sources
term_tree_of (term.Group shape sources kinds) =
    Group (shape_tree_of shape) sources (map kind_of_emit kinds)

-- the tree of a step
abbrev pub step_tree_of : Step → StepTree
step_tree_of s = record { statement = s.statement; schema = s.schema; term = term_tree_of s.term }

-- the tree of a checked script
abbrev pub checked_tree_of : Checked → CheckedTree
checked_tree_of c = record { steps = map step_tree_of c.steps; stores = c.stores }
