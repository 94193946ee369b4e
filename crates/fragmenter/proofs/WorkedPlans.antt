-- Worked plans: what fits, and what notes print, proved by computing.
use Rattle.std.proofs.Common.{◌≡◌, ℕ, List, [], ◌∷◌, replicate, Some, None, refl}
use Rattle.algebra.specs.declared.notes.PlanKind.TheVariants as kind
use Rattle.algebra.specs.declared.notes.PlanNote.TheVariants as note
use Rattle.algebra.specs.declared.settings.JoinKind.TheVariants as join
use Rattle.algebra.specs.declared.settings.Settings.{Settings}
use Rattle.algebra.specs.declared.settings.ShuffleKind.TheVariants as shuffle_kind
use Rattle.algebra.specs.declared.terms.Source.TheVariants as source
use Rattle.algebra.specs.Trees.{Shape, TermTree, Distinct, Join, Group, StepTree}
use Rattle.placement.specs.Layouts.{Shuffle, ByCells, ByKeys, Broadcast}
use Rattle.placement.specs.Plans.{LeastLoad, Fixed}
use Rattle.fragmenter.specs.declared.plans.Misfit.TheVariants as unfit
use Rattle.fragmenter.specs.Plans.{PlanTree, joins_of, misfit, rules_by}
use Rattle.fragmenter.specs.NotedPlans.{noted_plan}

-- ---- joins

-- a join of so many items and variables; nothing else of it counts
abbrev shape : ℕ → ℕ → Shape
shape items variables = record {
  atoms = replicate items (record { kinds = []; keeps = [] });
  variables = replicate variables [];
  plain = [];
  arith = [];
  emits = [];
}

abbrev step : ℕ → TermTree → StepTree
step number term = record { statement = number; schema = []; term = term }

-- one item alone is no join, and a grouping has the join below it
several : joins_of (step 1 (Join (shape 3 3) []) ∷ step 2 (Join (shape 1 0) []) ∷ step 3 (Distinct (source.Result 1)) ∷ step 5 (Group (shape 2 1) [] []) ∷ [])
    ≡ (1, 3) ∷ (5, 1) ∷ []
several = refl

-- ---- fit

-- a plan for 8 workers, of the join of statement 1
abbrev one_join : Shuffle → PlanTree
one_join shuffle = record { workers = 8; choices = record { statement = 1; shuffle = shuffle } ∷ [] }

-- the join of statement 1, of three variables
abbrev triangle : List (ℕ × ℕ)
triangle = (1, 3) ∷ []

fits : misfit (one_join (ByCells (8 ∷ 1 ∷ 1 ∷ []))) triangle 8 ≡ None
fits = refl

without_shares : misfit (one_join Broadcast) triangle 8 ≡ None
without_shares = refl

-- more cells than workers
past : misfit (one_join (ByCells (3 ∷ 3 ∷ 1 ∷ []))) triangle 8 ≡ Some (unfit.Statement 1)
past = refl

few_shares : misfit (one_join (ByCells (2 ∷ 2 ∷ []))) triangle 8 ≡ Some (unfit.Statement 1)
few_shares = refl

share_of_nought : misfit (one_join (ByCells (8 ∷ 0 ∷ 1 ∷ []))) triangle 8 ≡ Some (unfit.Statement 1)
share_of_nought = refl

other_workers : misfit (one_join (ByCells (2 ∷ 2 ∷ 1 ∷ []))) triangle 4 ≡ Some unfit.Workers
other_workers = refl

no_choice : misfit (record { workers = 8; choices = [] }) triangle 8 ≡ Some (unfit.Statement 1)
no_choice = refl

no_join : misfit (one_join ByKeys) [] 8 ≡ Some (unfit.Statement 1)
no_join = refl

other_statement : misfit (one_join ByKeys) ((2, 1) ∷ []) 8 ≡ Some (unfit.Statement 2)
other_statement = refl

second_choice_left : misfit (record {
  workers = 8;
  choices = record { statement = 1; shuffle = ByKeys } ∷ record { statement = 4; shuffle = ByKeys } ∷ [];
}) triangle 8 ≡ Some (unfit.Statement 4)
second_choice_left = refl

-- ---- rules

-- settings by cells, whose other fields don't count
abbrev by_cells : (settings : Settings) → Settings
by_cells settings = record settings { shuffle = shuffle_kind.Hc }

-- each statement goes by the settings
by_settings : (settings : Settings) → rules_by (by_cells settings) None 7 ≡ LeastLoad
by_settings settings = refl

-- the first choice for a statement is its rule, whatever the settings say
by_choice : (settings : Settings) → rules_by (by_cells settings) (Some (one_join ByKeys)) 1 ≡ Fixed ByKeys
by_choice settings = refl

-- a statement without a choice goes by broadcast
by_no_choice : (settings : Settings) → rules_by (by_cells settings) (Some (one_join ByKeys)) 2 ≡ Fixed Broadcast
by_no_choice settings = refl

-- ---- notes

-- a copy, a join by cells and one by broadcast
noted : noted_plan (note.Statement 1 kind.Copy 5 ∷ note.Statement 2 kind.From 3 ∷ note.Item 1 3 1 2 ∷ note.Item 2 3 0 3
    ∷ note.Variable 1 ((1, 0) ∷ (2, 0) ∷ []) (Some 2) ∷ note.Variable 2 ((1, 1) ∷ (2, 1) ∷ []) (Some 4) ∷ note.Hc join.Tj 8 5 2
    ∷ note.Statement 3 kind.From 3 ∷ note.ReduceCyclic ∷ note.Variable 1 ((1, 0) ∷ (2, 0) ∷ []) None ∷ note.Br join.Tj 2 ∷ note.Group 1 1 ∷ []) 8
    ≡ record {
      workers = 8;
      choices = record { statement = 2; shuffle = ByCells (2 ∷ 4 ∷ []) } ∷ record { statement = 3; shuffle = Broadcast } ∷ [];
    }
noted = refl

-- a join without variables
no_variable : noted_plan (note.Statement 1 kind.From 6 ∷ note.Hc join.Tj 1 5 1 ∷ []) 4
    ≡ record { workers = 4; choices = record { statement = 1; shuffle = ByCells [] } ∷ [] }
no_variable = refl

nothing_joined : noted_plan (note.Statement 1 kind.Copy 5 ∷ []) 4 ≡ record { workers = 4; choices = [] }
nothing_joined = refl
