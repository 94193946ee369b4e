-- What a loop over the steps of a rewritten script knows of each.
--
--   needed checked                  the needed steps
--   IsStepAt files c i x y          the needed step x and the rewritten step y stand at this place
--   StepsByPlace                    the steps at one place do the same
--   NumbersRise                     the numbers of needed steps rise
--   IsKept files c d                how many steps there are, their numbers, and the stores
--   RewrittenAreKept                a rewritten script has the numbers and stores of the needed steps
use Rattle.std.specs.Prelude.{◌≡◌, ℕ, ◌<◌, ◌≤◌, ◌==◌, IsTrue, List, map, length, find, take, All, Contains, Some, slice_index_or}
use Rattle.rel_base.specs.Keys.{File}
use Rattle.algebra.specs.declared.terms.StoreStep.{StoreStep}
use Rattle.algebra.specs.Trees.{StepTree, CheckedTree}
use Rattle.algebra.specs.Conditions.{is_of}
use Rattle.algebra.specs.Meanings.{sources_of, needed_steps}
use Rattle.algebra.specs.Rewriting.{IsSameStep, IsRewritten}
use Rattle.run_laws.specs.Values.{IsKnown}

-- the needed steps of a script, in order
abbrev pub needed : CheckedTree → List StepTree
needed c = needed_steps c.stores c.steps

-- the numbers of steps
abbrev pub numbers_of : List StepTree → List ℕ
numbers_of steps = map (λ (s : StepTree). s.statement) steps

-- the needed step x and the rewritten step y at place i: they are the same but for pushed tests; x is the step of the script with
-- y's number; and their sources are files and steps at places before it, whose numbers are lower
pub record IsStepAt (files : List File) (c : CheckedTree) (i : ℕ) (x y : StepTree) : Type 0 where
  pub same : IsSameStep x y
  pub own : Contains c.steps x
  pub found : find (λ (s : StepTree). s.statement == y.statement) c.steps ≡ Some x
  pub sources : sources_of x.term ≡ sources_of y.term
  pub known : All (IsKnown files (take i (needed c))) (sources_of x.term)
  pub later : All (λ (s : StepTree). s.statement < x.statement) (take i (needed c))

-- at each place there are such steps
abbrev pub StepsByPlace : Type 0
StepsByPlace =
    (files : List File) (c d : CheckedTree) → IsTrue (is_of files c) → IsRewritten c d
    → (i : ℕ) (a b : StepTree) → i < length d.steps
    → IsStepAt files c i (slice_index_or (needed c) i a) (slice_index_or d.steps i b)

-- the numbers of needed steps rise, so that no two have the same
abbrev pub NumbersRise : Type 0
NumbersRise =
    (files : List File) (c : CheckedTree) → IsTrue (is_of files c)
    → (i j : ℕ) (a b : StepTree) → i < j → j < length (needed c)
    → (slice_index_or (needed c) i a).statement < (slice_index_or (needed c) j b).statement

-- as many steps as are needed, which are no more than the script has, with their numbers; and its stores, of which each is of a
-- file or of one of these steps
pub record IsKept (files : List File) (c d : CheckedTree) : Type 0 where
  pub many : length d.steps ≡ length (needed c)
  pub few : length d.steps ≤ length c.steps
  pub numbers : numbers_of d.steps ≡ numbers_of (needed c)
  pub stores : d.stores ≡ c.stores
  pub known : All (λ (t : StoreStep). IsKnown files d.steps t.source) d.stores

abbrev pub RewrittenAreKept : Type 0
RewrittenAreKept = (files : List File) (c d : CheckedTree) → IsTrue (is_of files c)
    → IsRewritten c d → IsKept files c d
