-- The stages of steps.
--
--   shuffles kind n                   the exchanges of a join of n items, at least two
--   join_ends kind n                  what each stage of a join of n items ends with
--   term_ends kind term               what each stage of a term ends with
--   stages_at statement step ends     a stage for each of these ends
--   stages_of kind steps              the stages of some steps
use Rattle.std.specs.Prelude.{ℕ, ◌-◌, ◌==◌, if◌then◌else◌, List, [], ◌∷◌, ◌++◌, map, length, Option, Some, None}
use Rattle.std.specs.List.{flat_map, enumerate_from, range_with_len}
use Rattle.algebra.specs.declared.notes.Exchange.{Exchange}
use Rattle.algebra.specs.declared.notes.Exchange.TheVariants as exchange
use Rattle.algebra.specs.declared.settings.ShuffleKind.{ShuffleKind}
use Rattle.algebra.specs.declared.settings.ShuffleKind.TheVariants as shuffle
use Rattle.algebra.specs.Trees.{TermTree, Same, Empty, UnionAll, Diff, Distinct, Join, Group, StepTree}
use Rattle.fragmenter.specs.declared.stages.Stage.{Stage}

-- several items meet in one exchange, or two at a time: then there is one for each item behind the first, numbered from 2
abbrev pub shuffles : ShuffleKind → ℕ → List Exchange
shuffles shuffle.Hc n = exchange.Hc ∷ []
shuffles shuffle.Br n = exchange.Br ∷ []
shuffles shuffle.Rs n = map exchange.Rs (range_with_len 2 (n - 1))

-- a join of one item is one stage without an exchange; of several, each stage ends with one of its exchanges
abbrev pub join_ends : ShuffleKind → ℕ → List (Option Exchange)
join_ends kind n = if n == 1 then None ∷ [] else map Some (shuffles kind n)

-- what the stages of a term end with: a grouping follows its join, and what moves no row is one stage
abbrev pub term_ends : ShuffleKind → TermTree → List (Option Exchange)
term_ends kind (Same s) = None ∷ []
term_ends kind Empty = None ∷ []
term_ends kind (UnionAll s t) = None ∷ []
term_ends kind (Diff s t) = Some exchange.Diff ∷ []
term_ends kind (Distinct s) = Some exchange.Distinct ∷ []
term_ends kind (Join shape sources) = join_ends kind (length shape.atoms)
term_ends kind (Group shape sources kinds) =
    join_ends kind (length shape.atoms) ++ Some exchange.Group ∷ []

-- a stage of a step for each of these ends
abbrev pub stages_at : ℕ → ℕ → List (Option Exchange) → List Stage
stages_at statement step ends =
    map (λ end. record { statement = statement; step = step; exchange = end }) ends

-- the stages of some steps, step by step
abbrev pub stages_of : ShuffleKind → List StepTree → List Stage
stages_of kind steps =
    flat_map (λ (e : ℕ × StepTree). stages_at e.1.statement e.0 (term_ends kind e.1.term))
    (enumerate_from 0 steps)
