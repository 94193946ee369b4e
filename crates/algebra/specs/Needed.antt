-- Which steps are needed, as a rule.
--
--   IsNeeded stores steps number     the result of the statement of this number is needed
--   NeededByRule                     the steps that are computed as needed are those that the rule says
--   NeededIsNeeded                   and they need all of themselves
use Rattle.std.specs.Prelude.{◌≡◌, ◌↔◌, ℕ, List, Contains, IsTrue}
use Rattle.std.specs.List.{list_any}
use Rattle.rel_base.specs.Keys.{File}
use Rattle.algebra.specs.declared.terms.StoreStep.{StoreStep}
use Rattle.algebra.specs.Trees.{StepTree, CheckedTree}
use Rattle.algebra.specs.Meanings.{is_result, uses, needed_steps}
use Rattle.algebra.specs.Conditions.{is_of}

-- the least set of statements that has each one whose result is stored, and each one whose result is a source of one that it has
pub data IsNeeded (stores : List StoreStep) (steps : List StepTree) : ℕ → Type 0 where
  stored : (number : ℕ) → IsTrue (list_any (λ (t : StoreStep). is_result number t.source) stores)
      → IsNeeded stores steps number
  used : (number : ℕ) (s : StepTree) → Contains steps s → IsNeeded stores steps s.statement
      → IsTrue (uses number s)
      → IsNeeded stores steps number

-- a step of a checked script is among the needed steps exactly where the rule says that it is needed
abbrev pub NeededByRule : Type 0
NeededByRule =
    (files : List File) (c : CheckedTree) → IsTrue (is_of files c) → (s : StepTree)
    → Contains c.steps s
    → IsNeeded c.stores c.steps s.statement ↔ Contains (needed_steps c.stores c.steps) s

-- what is needed is needed of the needed steps
abbrev pub NeededIsNeeded : Type 0
NeededIsNeeded =
    (stores : List StoreStep) (steps : List StepTree)
    → needed_steps stores (needed_steps stores steps) ≡ needed_steps stores steps
