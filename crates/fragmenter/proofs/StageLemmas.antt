-- The stages of one step more, and the exchanges of one item more.
use Rattle.std.proofs.Common.{◌≡◌, ◌∙◌, ℕ, ◌+◌, List, [], ◌∷◌, ◌++◌, map, length, Some, refl, ap, arith, append-nil}
use Rattle.std.specs.List.{enumerate_from, range_with_len}
use Rattle.std.proofs.lemmas.List.{map-append}
use Rattle.std.proofs.lemmas.List.Concat.{flat_map-append}
use Rattle.std.proofs.lemmas.List.FromFn.{map-range_with_len_more}
use Rattle.algebra.specs.declared.notes.Exchange.TheVariants as exchange
use Rattle.algebra.specs.declared.settings.ShuffleKind.{ShuffleKind}
use Rattle.algebra.specs.Trees.{StepTree}
use Rattle.fragmenter.specs.declared.stages.Stage.{Stage}
use Rattle.fragmenter.specs.Stages.{stages_at, stages_of, term_ends}

enumerated_more : {X : Type 0} (n m : ℕ) (xs : List X) (x : X) → n + length xs ≡ m
    → enumerate_from n (xs ++ x ∷ []) ≡ enumerate_from n xs ++ (m, x) ∷ []
enumerated_more n m [] x at =
    let here : n ≡ m = omega (arith, at) in
    rw here refl
enumerated_more n m (y ∷ xs) x at = ap (λ more. (n, y) ∷ more) (enumerated_more (n + 1) m xs x (omega (arith, at)))

-- the stages of a step stand behind those of the steps before it
pub stages_more : (kind : ShuffleKind) (steps : List StepTree) (step : StepTree) (place : ℕ) → length steps ≡ place
    → stages_of kind (steps ++ step ∷ []) ≡ stages_of kind steps ++ stages_at step.statement place (term_ends kind step.term)
stages_more kind steps step place at =
    let of_step : ℕ × StepTree → List Stage = λ e. stages_at e.1.statement e.0 (term_ends kind e.1.term) in
    let last : List (ℕ × StepTree) = (place, step) ∷ [] in
    rw (enumerated_more 0 place steps step (omega (arith, at)), flat_map-append of_step (enumerate_from 0 steps) last)
    (ap (λ stages. stages_of kind steps ++ stages) (append-nil (of_step (place, step))))

-- the exchange of one item more stands behind the others
pub exchanges_more : (n step : ℕ) → 2 + n ≡ step
    → map Some (map exchange.Rs (range_with_len 2 (n + 1)))
    ≡ map Some (map exchange.Rs (range_with_len 2 n)) ++ Some (exchange.Rs step) ∷ []
exchanges_more n step at =
    ap (map Some) (map-range_with_len_more exchange.Rs 2 n step at)
    ∙ map-append Some (map exchange.Rs (range_with_len 2 n)) (exchange.Rs step ∷ [])
