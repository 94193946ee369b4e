-- What the plan of a replay comes to.
--
--   plan_verdict workers joins content   what the file of a plan comes to, for these joins
--   asked_plan r content c               the plan that a request goes by: none but in a replay
--   rules_asked r plan                   by which rule each statement is shuffled
--   faults_asked r plan                  what counts as a fault of each statement
use Rattle.std.specs.Prelude.{ℕ, List, Option, Some, None, if◌then◌else◌, unwrap_or, []}
use Rattle.std.specs.Option.{option_map_or}
use Rattle.rel_io.specs.Outside.{Content}
use Rattle.myrial_ast.specs.CandidateFaults.{FaultRule, joins_alone}
use Rattle.myrial_meaning.specs.Faults.{in_each}
use Rattle.algebra.specs.Meanings.{needed_steps}
use Rattle.algebra.specs.Trees.{CheckedTree}
use Rattle.placement.specs.Plans.{ShuffleRule}
use Rattle.placement.specs.Runs.{faults_at}
use Rattle.fragmenter.specs.Plans.{PlanTree, joins_of, misfit, rules_by}
use Rattle.fragmenter.specs.declared.plans.Misfit.{Misfit}
use Rattle.fragmenter.specs.declared.plans.Misfit.TheVariants as unfit
use Rattle.plan_json.specs.PlanTexts.{most_plan_bytes, plan_of_text}
use Rattle.command_words.specs.Modes.{is_replay}
use Rattle.command_words.specs.declared.requests.Request.{Request}
use Rattle.myria_top.specs.declared.outcomes.Outcome.{Outcome}
use Rattle.myria_top.specs.declared.outcomes.Outcome.TheVariants as outcome
use Rattle.myria_top.specs.Reading.{file_verdict}
use Rattle.myria_top.specs.Requests.{is_check}
use Rattle.myria_top.specs.Verdicts.{Verdict, refused, passes, and_then}

-- the answer to a plan for so many workers that doesn't fit
abbrev pub misfit_answer : ℕ → Misfit → Outcome
misfit_answer workers unfit.Workers = outcome.PlanWorkers workers
misfit_answer workers (unfit.Statement statement) = outcome.PlanMisfit statement

-- a plan passes where it fits
abbrev pub plan_fitted : ℕ → List (ℕ × ℕ) → PlanTree → Verdict PlanTree
plan_fitted workers joins plan =
    option_map_or (λ why. refused (misfit_answer plan.workers why)) (misfit plan joins workers)
    (passes plan)

-- what the bytes of a plan come to
abbrev pub plan_read : ℕ → List (ℕ × ℕ) → List ℕ → Verdict PlanTree
plan_read workers joins bytes =
    option_map_or (plan_fitted workers joins) (plan_of_text bytes) (refused outcome.BadPlan)

-- what the file of a plan comes to
abbrev pub plan_verdict : ℕ → List (ℕ × ℕ) → Content → Verdict PlanTree
plan_verdict workers joins =
    file_verdict most_plan_bytes outcome.NoPlan outcome.PlanTooLong (plan_read workers joins)

-- the joins of the needed steps
abbrev pub needed_joins : CheckedTree → List (ℕ × ℕ)
needed_joins c = joins_of (needed_steps c.stores c.steps)

-- the name of the plan, where one is named
abbrev pub plan_named : Request → List ℕ
plan_named r = unwrap_or r.from []

-- the plan of that name, for a typed script
abbrev pub named_plan : Request → (List ℕ → Content) → CheckedTree → Verdict PlanTree
named_plan r content c =
    plan_verdict r.settings.workers (needed_joins c) (content (plan_named r))

-- the plan that a request goes by
abbrev pub asked_plan : Request → (List ℕ → Content) → CheckedTree
    → Verdict (Option PlanTree)
asked_plan r content c =
    if is_replay r.mode then and_then (named_plan r content c) (λ plan. passes (Some plan))
    else passes None

-- the rule of each statement: a plan's, or else that of the settings
abbrev pub rules_asked : Request → Option PlanTree → ℕ → ShuffleRule
rules_asked r plan = rules_by r.settings plan

-- where workers run the script, these rules say what counts; a check neither joins two items at a
-- time nor reduces
abbrev pub faults_asked : Request → Option PlanTree → ℕ → FaultRule
faults_asked r plan =
    if is_check r.mode then in_each joins_alone else faults_at r.settings (rules_asked r plan)
