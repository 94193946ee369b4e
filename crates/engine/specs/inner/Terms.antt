-- The terms of steps.
--
--   IsUnionFault statement rows fault    a `unionall` of so many rows has this fault, or memory was refused
--   IsStepRun ..                         what running the term of a step does, whatever it answers
--   later_in run                         the steps behind the one that is run
use Rattle.std.specs.Prelude.{◌≡◌, ⊤, ℕ, ◌<◌, List, Result, map, drop}
use Rattle.rel_base.specs.Limits.{most_rows}
use Rattle.rel_base.specs.declared.faults.RunFault.{RunFault}
use Rattle.rel_base.specs.declared.faults.RunFault.TheVariants as fault
use Rattle.rel_io.specs.declared.taps.Totals.{Totals}
use Rattle.algebra.specs.declared.settings.Settings.{Settings}
use Rattle.algebra.specs.declared.terms.Source.{Source}
use Rattle.algebra.specs.CheckedTrees.{step_tree_of}
use Rattle.algebra.specs.Trees.{StepTree, TermTree}
use Rattle.algebra.specs.Meanings.{term_fault}
use Rattle.placement.specs.Exchanges.{term_exchanges}
use Rattle.placement.specs.Layouts.{PlacedRelation, term_parts}
use Rattle.placement.specs.Plans.{ShuffleRule, ruled_placing}
use Rattle.placement.specs.Runs.{faults_by}
use Rattle.routed_joins.specs.declared.moved.Moved.{Moved}
use Rattle.engine.specs.declared.terms.RunStep.{RunStep}
use Rattle.engine.specs.inner.Joins.{IsTold}

-- there are too many rows, or memory was refused
abbrev pub IsUnionFault : ℕ → ℕ → RunFault → Type 0
IsUnionFault statement rows fault.Memory = ⊤
IsUnionFault statement rows other = (most_rows < rows) × (other ≡ fault.TooManyRows statement)

-- what running a term does, where its sources stand for these rows
abbrev pub IsStepRun : {T : Type 0} → Settings → ShuffleRule → ℕ → (Source → PlacedRelation) → TermTree
    → (T → Totals) → (T → ℕ) → List T
    → List T → Result Moved RunFault → Type 0
IsStepRun s rule number value t totals tag before after answer =
    let p = ruled_placing s rule in
    IsTold s number (term_parts p number value t) (term_exchanges p number value t)
    (term_fault (faults_by s rule) number (λ o. (value o).relation.rows) t) totals tag before after
    answer

-- the steps behind the one that is run
abbrev pub later_in : RunStep → List StepTree
later_in run = drop 1 (map step_tree_of run.steps.now)
