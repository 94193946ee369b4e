-- Steps whose joins are pushed.
--
--   pushed_term term, pushed_step step      the same, with each join pushed
--   rewritten checked                       the needed steps, pushed, and the stores
use Rattle.std.specs.Prelude.{map}
use Rattle.algebra.specs.Meanings.{needed_steps}
use Rattle.algebra.specs.Trees.{TermTree, Join, Group, StepTree, CheckedTree}
use Rattle.plan_rewrite.specs.inner.Pushing.{pushed}

-- the term whose join is pushed
abbrev pub pushed_term : TermTree → TermTree
pushed_term (Join shape sources) = Join (pushed shape) sources
pushed_term (Group shape sources kinds) = Group (pushed shape) sources kinds
pushed_term t = t

-- the step whose join is pushed
abbrev pub pushed_step : StepTree → StepTree
pushed_step s = record { statement = s.statement; schema = s.schema; term = pushed_term s.term }

-- the needed steps, pushed, and the stores
abbrev pub rewritten : CheckedTree → CheckedTree
rewritten c = record { steps = map pushed_step (needed_steps c.stores c.steps); stores = c.stores }
