-- Worked stages, proved by computing.
use Rattle.std.proofs.Common.{◌≡◌, ℕ, List, [], ◌∷◌, replicate, Option, Some, None, refl}
use Rattle.algebra.specs.declared.notes.Exchange.{Exchange}
use Rattle.algebra.specs.declared.notes.Exchange.TheVariants as exchange
use Rattle.algebra.specs.declared.settings.ShuffleKind.TheVariants as shuffle
use Rattle.algebra.specs.declared.terms.Source.{Source}
use Rattle.algebra.specs.declared.terms.Source.TheVariants as source
use Rattle.algebra.specs.Trees.{Shape, TermTree, Same, Empty, UnionAll, Diff, Distinct, Join, Group, StepTree}
use Rattle.fragmenter.specs.declared.stages.Stage.{Stage}
use Rattle.fragmenter.specs.Stages.{stages_of}

abbrev first : Source
first = source.Result 1

-- a join of so many items; nothing else of it counts
abbrev shape : ℕ → Shape
shape n = record {
  atoms = replicate n (record { kinds = []; keeps = [] });
  variables = [];
  plain = [];
  arith = [];
  emits = [];
}

abbrev step : ℕ → TermTree → StepTree
step number term = record { statement = number; schema = []; term = term }

abbrev stage : ℕ → ℕ → Option Exchange → Stage
stage number place end = record { statement = number; step = place; exchange = end }

-- four statements, of which the second stores and has no step
abbrev steps : List StepTree
steps =
    step 1 (Join (shape 3) []) ∷ step 3 (Group (shape 2) [] []) ∷ step 4 (Distinct first) ∷ step 5 (UnionAll first first) ∷ []

two_at_a_time : stages_of shuffle.Rs steps
    ≡ stage 1 0 (Some (exchange.Rs 2)) ∷ stage 1 0 (Some (exchange.Rs 3)) ∷ stage 3 1 (Some (exchange.Rs 2))
    ∷ stage 3 1 (Some exchange.Group)
    ∷ stage 4 2 (Some exchange.Distinct) ∷ stage 5 3 None ∷ []
two_at_a_time = refl

all_at_once : stages_of shuffle.Hc steps
    ≡ stage 1 0 (Some exchange.Hc) ∷ stage 3 1 (Some exchange.Hc) ∷ stage 3 1 (Some exchange.Group)
    ∷ stage 4 2 (Some exchange.Distinct)
    ∷ stage 5 3 None ∷ []
all_at_once = refl

by_broadcast : stages_of shuffle.Br (step 7 (Join (shape 2) []) ∷ []) ≡ stage 7 0 (Some exchange.Br) ∷ []
by_broadcast = refl

-- one item meets no other, but its groups do
one_item : stages_of shuffle.Rs (step 1 (Group (shape 1) [] []) ∷ []) ≡ stage 1 0 None ∷ stage 1 0 (Some exchange.Group) ∷ []
one_item = refl

others : stages_of shuffle.Br (step 1 (Same first) ∷ step 2 Empty ∷ step 3 (Diff first first) ∷ [])
    ≡ stage 1 0 None ∷ stage 2 1 None ∷ stage 3 2 (Some exchange.Diff) ∷ []
others = refl
