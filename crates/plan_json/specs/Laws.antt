-- The law of plans as text.
--
--   IsShuffleWithin shuffle     its shares are no more and no greater than a text may have
--   IsChoiceWithin choice       so are those of a choice, and its statement
--   IsPlanWithin plan           the numbers of a plan are within the limits of its text
--   WrittenIsRead               what is written of such a plan is read as that plan
use Rattle.std.specs.Prelude.{◌≡◌, ◌≤◌, ⊤, ℕ, length, All, Some}
use Rattle.rel_base.specs.Limits.{most_workers, most_variables, most_pieces}
use Rattle.placement.specs.Layouts.{Shuffle, ByCells, ByKeys, Broadcast}
use Rattle.fragmenter.specs.Plans.{ChoiceTree, PlanTree}
use Rattle.plan_json.specs.PlanTexts.{plan_of_text, written}

-- a number from 1 to this one
abbrev pub IsUpTo : ℕ → ℕ → Type 0
IsUpTo most n = (1 ≤ n) × (n ≤ most)

-- no more shares than a join may have variables, and none above the most workers
abbrev pub IsShuffleWithin : Shuffle → Type 0
IsShuffleWithin (ByCells shares) =
    (length shares ≤ most_variables) × All (IsUpTo most_workers) shares
IsShuffleWithin ByKeys = ⊤
IsShuffleWithin Broadcast = ⊤

-- the statement is one of those that a script may have
pub record IsChoiceWithin (choice : ChoiceTree) : Type 0 where
  pub statement : IsUpTo most_pieces choice.statement
  pub shuffle : IsShuffleWithin choice.shuffle

-- the numbers of a plan are within the limits of its text
pub record IsPlanWithin (plan : PlanTree) : Type 0 where
  pub workers : IsUpTo most_workers plan.workers
  pub count : length plan.choices ≤ most_pieces
  pub choices : All IsChoiceWithin plan.choices

-- what is written of a plan within the limits is read as that plan
abbrev pub WrittenIsRead : Type 0
WrittenIsRead = (plan : PlanTree) → IsPlanWithin plan → plan_of_text (written plan) ≡ Some plan
