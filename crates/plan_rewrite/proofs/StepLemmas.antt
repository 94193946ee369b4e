-- The needed steps, pushed, are a rewritten script.
use Rattle.std.proofs.Common.{◌≡◌, ◌∙◌, ℕ, ◌+◌, ◌<◌, Bool, Bor, true, false, cond, drop, get_or, List, [], ◌∷◌, ◌++◌, length, map, refl, reverse, sym, ap}
use Rattle.std.specs.Prelude.{⊤, ◌||◌}
use Rattle.std.specs.List.{list_any}
use Rattle.std.proofs.lemmas.List.{drop_more, map-append, reverse-append}
use Rattle.std.proofs.lemmas.List.Folds.{list_any-append}
use Rattle.algebra.specs.declared.terms.Step.{Step}
use Rattle.algebra.specs.declared.terms.StoreStep.{StoreStep}
use Rattle.algebra.specs.declared.terms.Term.{Term}
use Rattle.algebra.specs.declared.terms.Term.TheVariants as term
use Rattle.algebra.specs.CheckedTrees.{step_tree_of, term_tree_of}
use Rattle.algebra.specs.Meanings.{is_result, is_used, needed_steps, uses}
use Rattle.algebra.specs.Rewriting.{AreSameSteps, IsRewritten, IsSameTerm, a_step, no_step}
use Rattle.algebra.specs.ShapeConditions.{is_shape}
use Rattle.algebra.specs.Trees.{CheckedTree, StepTree, TermTree, Same, Empty, UnionAll, Diff, Distinct, Join, Group}
use Rattle.plan_rewrite.specs.inner.Steps.{pushed_step, pushed_term, rewritten}
use Rattle.plan_rewrite.proofs.ListLemmas.{Each}
use Rattle.plan_rewrite.proofs.PushingLemmas.{is-pushed}

-- the shape of a join is well formed
abbrev pub IsFormed : TermTree → Type 0
IsFormed (Join shape sources) = is_shape shape ≡ true
IsFormed (Group shape sources kinds) = is_shape shape ≡ true
IsFormed _ = ⊤

term-pushed : (t : TermTree) → IsFormed t → IsSameTerm t (pushed_term t)
term-pushed (Same s) h = refl
term-pushed Empty h = refl
term-pushed (UnionAll s t) h = refl
term-pushed (Diff s t) h = refl
term-pushed (Distinct s) h = refl
term-pushed (Join shape sources) h = (is-pushed shape h, refl)
term-pushed (Group shape sources kinds) h = (is-pushed shape h, refl, refl)

steps-pushed : (steps : List StepTree) → Each (λ (s : StepTree). IsFormed s.term) steps → AreSameSteps steps (map pushed_step steps)
steps-pushed [] h = no_step
steps-pushed (s ∷ steps) h =
    a_step s (pushed_step s) steps (map pushed_step steps) (record { statement = refl; schema = refl; term = term-pushed s.term h.0 }) (steps-pushed steps h.1)

needed-formed : (stores : List StoreStep) (steps : List StepTree) → Each (λ (s : StepTree). IsFormed s.term) steps
    → Each (λ (s : StepTree). IsFormed s.term) (needed_steps stores steps)
needed-formed stores [] h = tt
needed-formed stores (s ∷ steps) h = by (is_used s.statement stores (needed_steps stores steps)) (needed-formed stores steps h.1)
  where
    by : (b : Bool) → Each (λ (s : StepTree). IsFormed s.term) (needed_steps stores steps)
        → Each (λ (s : StepTree). IsFormed s.term) (cond b (s ∷ needed_steps stores steps) (needed_steps stores steps))
    by true rest = (h.0, rest)
    by false rest = rest

-- the shapes of the program's terms are well formed
term-formed : (t : Term) → IsFormed (term_tree_of t)
term-formed (term.Same s) = tt
term-formed term.Empty = tt
term-formed (term.UnionAll s t) = tt
term-formed (term.Diff s t) = tt
term-formed (term.Distinct s) = tt
term-formed (term.Join shape sources) = shape.well_formed
term-formed (term.Group shape sources kinds) = shape.well_formed

steps-formed : (steps : List Step) → Each (λ (s : StepTree). IsFormed s.term) (map step_tree_of steps)
steps-formed [] = tt
steps-formed (s ∷ steps) = (term-formed s.term, steps-formed steps)

pub is-rewritten : (steps : List Step) (stores : List StoreStep)
    → let c : CheckedTree = record { steps = map step_tree_of steps; stores = stores } in IsRewritten c (rewritten c)
is-rewritten steps stores = record {
  steps = steps-pushed (needed_steps stores (map step_tree_of steps)) (needed-formed stores (map step_tree_of steps) (steps-formed steps));
  stores = refl;
}

-- ---- from the last step to the first

list_any-reverse : {X : Type 0} (p : X → Bool) (xs : List X) → list_any p (reverse xs) ≡ list_any p xs
list_any-reverse p [] = refl
list_any-reverse p (x ∷ xs) =
    ap (list_any p) (reverse-append (x ∷ []) xs) ∙ list_any-append p (reverse xs) (x ∷ []) ∙ by (list_any p (reverse xs)) (p x) ∙ ap (λ b. p x || b) (list_any-reverse p xs)
  where
    by : (a b : Bool) → (a || (b || false)) ≡ (b || a)
    by true true = refl
    by true false = refl
    by false true = refl
    by false false = refl

pub list_any-map : {X Y : Type 0} (p : Y → Bool) (f : X → Y) (xs : List X) → list_any p (map f xs) ≡ list_any (λ x. p (f x)) xs
list_any-map p f [] = refl
list_any-map p f (x ∷ xs) = ap (λ b. p (f x) || b) (list_any-map p f xs)

abbrev pub tree_behind : Bor Step → StepTree
tree_behind s = step_tree_of s.now

-- one step before: it is needed where a store or one of those that were found uses it
pub needed-step : (stores : List StoreStep) (steps : List Step) (i n : ℕ) → i + 1 ≡ n → i < length steps → (step : Step) → step ≡ get_or steps i step
    → (found : List (Bor Step)) → reverse (map tree_behind found) ≡ needed_steps stores (map step_tree_of (drop n steps))
    → needed_steps stores (map step_tree_of (drop i steps))
    ≡ cond (list_any (λ (t : StoreStep). is_result step.statement t.source) stores || list_any (λ s. uses step.statement (step_tree_of s.now)) found)
    (step_tree_of step ∷ reverse (map tree_behind found)) (reverse (map tree_behind found))
needed-step stores steps i n next low step at found inv =
    let split : drop i steps ≡ step ∷ drop n steps = drop_more steps i step low ∙ (λ t. sym at t ∷ drop (next t) steps) in
    let test : is_used step.statement stores (reverse (map tree_behind found))
    ≡ (list_any (λ (t : StoreStep). is_result step.statement t.source) stores || list_any (λ s. uses step.statement (step_tree_of s.now)) found) =
    ap (λ b. list_any (λ (t : StoreStep). is_result step.statement t.source) stores || b)
    (list_any-reverse (uses step.statement) (map tree_behind found) ∙ list_any-map (uses step.statement) tree_behind found) in
    ap (λ ss. needed_steps stores (map step_tree_of ss)) split
    ∙ ap (λ later. cond (is_used step.statement stores later) (step_tree_of step ∷ later) later) (sym inv)
    ∙ ap (λ b. cond b (step_tree_of step ∷ reverse (map tree_behind found)) (reverse (map tree_behind found))) test

-- a step that was found, before those behind it
pub found-more : (found : List (Bor Step)) (s : Bor Step) → reverse (map tree_behind (found ++ s ∷ [])) ≡ tree_behind s ∷ reverse (map tree_behind found)
found-more found s = ap reverse (map-append tree_behind found (s ∷ [])) ∙ reverse-append (map tree_behind found) (tree_behind s ∷ [])

-- one step more is pushed
pub pushed-more : (found : List (Bor Step)) (i n : ℕ) → i + 1 ≡ n → i < length found → (s : Bor Step) → s ≡ get_or found i s
    → map pushed_step (reverse (map tree_behind (drop i found))) ≡ map pushed_step (reverse (map tree_behind (drop n found))) ++ pushed_step (tree_behind s) ∷ []
pushed-more found i n next low s at =
    ap (λ ss. map pushed_step (reverse (map tree_behind ss))) (drop_more found i s low ∙ (λ t. sym at t ∷ drop (next t) found))
    ∙ ap (map pushed_step) (reverse-append (tree_behind s ∷ []) (map tree_behind (drop n found)))
    ∙ map-append pushed_step (reverse (map tree_behind (drop n found))) (tree_behind s ∷ [])
