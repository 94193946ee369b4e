-- Plans, and whether one fits the joins of a script.
--
--   ChoiceTree, PlanTree                    a choice for a join, and a plan, with shares as lists
--   shuffle_of how                          how rows meet by this choice
--   choice_tree_of choice, plan_tree_of plan    their trees
--   joins_of steps                          the joins of some steps: statements, and how many variables
--   is_choice_for workers join choice       whether a choice is for this join
--   first_misfit workers joins choices      the first statement at which joins and choices don't match
--   misfit plan joins workers               why a plan doesn't fit
--   planned_shuffle plan number             how the rows of a statement's join meet by a plan
--   planned_rules plan                      the rule of each statement
--   lent_plan plan                          the tree of a plan that is lent, where one is
--   rules_by settings plan                  the rule of each statement by a plan, or by the settings where there is none
use Rattle.std.specs.Prelude.{ℕ, ◌==◌, ◌&&◌, nat_le, if◌then◌else◌, Bool, true, List, [], ◌∷◌, map, length, find, Option, Some, None, option_map}
use Rattle.std.specs.Borrow.{Bor}
use Rattle.std.specs.List.{flat_map}
use Rattle.std.specs.Option.{option_map_or, option_to_list}
use Rattle.algebra.specs.declared.settings.Settings.{Settings}
use Rattle.algebra.specs.Trees.{Shape, TermTree, Join, Group, StepTree}
use Rattle.share_chooser.specs.Load.{are_shares}
use Rattle.share_chooser.specs.Shares.{shares_of}
use Rattle.placement.specs.Layouts.{Shuffle, ByCells, ByKeys, Broadcast}
use Rattle.placement.specs.Plans.{ShuffleRule, Fixed, usual_rules}
use Rattle.fragmenter.specs.declared.plans.How.{How}
use Rattle.fragmenter.specs.declared.plans.How.TheVariants as how
use Rattle.fragmenter.specs.declared.plans.Choice.{Choice}
use Rattle.fragmenter.specs.declared.plans.Plan.{Plan}
use Rattle.fragmenter.specs.declared.plans.Misfit.{Misfit}
use Rattle.fragmenter.specs.declared.plans.Misfit.TheVariants as unfit

-- the choice for a join: the number of its statement, and how its rows meet
pub record ChoiceTree : Type 0 where
  pub statement : ℕ
  pub shuffle : Shuffle

-- a plan: the number of workers that it is for, and a choice for each join
pub record PlanTree : Type 0 where
  pub workers : ℕ
  pub choices : List ChoiceTree

-- how rows meet by this choice
abbrev pub shuffle_of : How → Shuffle
shuffle_of (how.Hc shares) = ByCells (shares_of shares)
shuffle_of how.Rs = ByKeys
shuffle_of how.Br = Broadcast

-- the tree of a choice
abbrev pub choice_tree_of : Choice → ChoiceTree
choice_tree_of c = record { statement = c.statement; shuffle = shuffle_of c.how }

-- the tree of a plan
abbrev pub plan_tree_of : Plan → PlanTree
plan_tree_of p = record { workers = p.workers; choices = map choice_tree_of p.choices }

-- ---- joins

-- how many variables a join has, where two items meet in it or more
abbrev pub variables_met : Shape → Option ℕ
variables_met shape = if nat_le 2 (length shape.atoms) then Some (length shape.variables) else None

-- how many variables the join of a term has, where it has one
abbrev pub variables_of : TermTree → Option ℕ
variables_of (Join shape sources) = variables_met shape
variables_of (Group shape sources kinds) = variables_met shape
variables_of _ = None

-- the join of a step, where it has one: the number of its statement, and how many variables it has
abbrev pub join_of : StepTree → List (ℕ × ℕ)
join_of s = option_to_list
    (option_map (λ variables. (s.statement, variables)) (variables_of s.term))

-- the joins of some steps, in order
abbrev pub joins_of : List StepTree → List (ℕ × ℕ)
joins_of steps = flat_map join_of steps

-- ---- fit

-- only a join by cells has shares
abbrev pub is_shuffle_for : ℕ → ℕ → Shuffle → Bool
is_shuffle_for variables workers (ByCells shares) = are_shares variables workers shares
is_shuffle_for variables workers ByKeys = true
is_shuffle_for variables workers Broadcast = true

-- it names the statement of the join, and its shares are shares for it
abbrev pub is_choice_for : ℕ → ℕ × ℕ → ChoiceTree → Bool
is_choice_for workers join c = (c.statement == join.0) && is_shuffle_for join.1 workers c.shuffle

-- where joins and choices are walked side by side: the join whose choice is missing or isn't for it, or the statement of the
-- first choice behind the last join
abbrev pub first_misfit : ℕ → List (ℕ × ℕ) → List ChoiceTree → Option ℕ
first_misfit workers [] [] = None
first_misfit workers [] (c ∷ choices) = Some c.statement
first_misfit workers (j ∷ joins) [] = Some j.0
first_misfit workers (j ∷ joins) (c ∷ choices) =
    if is_choice_for workers j c then first_misfit workers joins choices else Some j.0

-- a plan fits where it is for as many workers and each join has its choice
abbrev pub misfit : PlanTree → List (ℕ × ℕ) → ℕ → Option Misfit
misfit plan joins workers =
    if plan.workers == workers
    then option_map unfit.Statement (first_misfit workers joins plan.choices)
    else Some unfit.Workers

-- ---- a run by a plan

-- how the rows of a statement's join meet: by the first choice for it, and else one item stays where it is
abbrev pub planned_shuffle : PlanTree → ℕ → Shuffle
planned_shuffle plan number =
    option_map_or (λ c. c.shuffle) (find (λ (c : ChoiceTree). c.statement == number) plan.choices)
    Broadcast

-- the rule of each statement
abbrev pub planned_rules : PlanTree → ℕ → ShuffleRule
planned_rules plan number = Fixed (planned_shuffle plan number)

-- the tree of a plan that is lent, where one is
abbrev pub lent_plan : Option (Bor Plan) → Option PlanTree
lent_plan plan = option_map (λ lent. plan_tree_of lent.now) plan

-- the rule of each statement: that of a plan, or, where there is none, that of the settings
abbrev pub rules_by : Settings → Option PlanTree → ℕ → ShuffleRule
rules_by s None = usual_rules s
rules_by s (Some plan) = planned_rules plan
