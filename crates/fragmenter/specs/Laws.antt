-- The laws of stages and plans.
--
--   exchange_at stage      the exchange that a stage ends with, with the number of its statement
--   StagesAreExchanges     the stages of the steps that a run is done by end with its exchanges, in order
--   NotedPlanFits          the plan that the notes of a run print fits these steps
use Rattle.std.specs.Prelude.{◌≡◌, ℕ, List, map, None, option_map, IsTrue}
use Rattle.std.specs.List.{flat_map}
use Rattle.std.specs.Option.{option_to_list}
use Rattle.rel_base.specs.Keys.{File}
use Rattle.algebra.specs.Conditions.{is_of}
use Rattle.algebra.specs.Rewriting.{IsRewritten}
use Rattle.algebra.specs.Trees.{CheckedTree}
use Rattle.algebra.specs.declared.notes.Exchange.{Exchange}
use Rattle.algebra.specs.declared.settings.JoinKind.{JoinKind}
use Rattle.algebra.specs.declared.settings.Settings.{Settings}
use Rattle.placement.specs.Exchanges.{PlacedExchange, exchanges_of}
use Rattle.placement.specs.Layouts.{Placing}
use Rattle.placement.specs.Laws.{IsPlacing}
use Rattle.placement.specs.Plans.{placing_by, usual_rules, plan_of}
use Rattle.fragmenter.specs.Plans.{joins_of, misfit}
use Rattle.fragmenter.specs.NotedPlans.{noted_plan}
use Rattle.fragmenter.specs.Stages.{stages_of}
use Rattle.fragmenter.specs.declared.stages.Stage.{Stage}

-- the exchange that a stage ends with, where it ends with one, and the number of its statement
abbrev pub exchange_at : Stage → List (ℕ × Exchange)
exchange_at stage =
    option_to_list (option_map (λ exchange. (stage.statement, exchange)) stage.exchange)

-- whatever a checked script is rewritten to, its stages end with the exchanges of the run by these settings, in order
abbrev pub StagesAreExchanges : Type 0
StagesAreExchanges =
    (s : Settings) (files : List File) (c d : CheckedTree) → IsTrue (is_of files c)
    → IsRewritten c d
    → flat_map exchange_at (stages_of s.shuffle d.steps)
    ≡ map (λ (e : ℕ × PlacedExchange). (e.0, e.1.kind))
    (exchanges_of (placing_by s (usual_rules s)) files c)

-- for the workers of a run, the plan that its notes print fits whatever its checked script is rewritten to
abbrev pub NotedPlanFits : Type 0
NotedPlanFits =
    (p : Placing) (local : JoinKind) (files : List File) (c d : CheckedTree) → IsPlacing p
    → IsTrue (is_of files c) → IsRewritten c d
    → misfit (noted_plan (plan_of p local files c) p.workers) (joins_of d.steps) p.workers ≡ None
