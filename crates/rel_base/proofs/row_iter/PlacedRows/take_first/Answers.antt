use Rattle.std.proofs.Common.{◌∙◌, ◌<◌, All, [], ◌∷◌, ◌++◌, length, sym, ap, arith}
use Rattle.rel_base.specs.Picks.{items_at}
use Rattle.rel_base.proofs.PickLemmas.{one_item, rest_within}
use Rattle.rel_base.proofs.row_iter.PlacedRows.take_first.Goals as goal
use Rattle.rel_base.proofs.row_iter.PlacedRows.take_first.Goals.{After-get}

-- the places that were left, by their first
within : (c : After-get) → All (λ p. p < length c.self.inside.block.now) (c.in_ok-place.place.now ∷ c.in_ok-place.rest.now)
within c = rw c.in_ok-place.ensures.cases.0 at c.self.invariant

pub invariant_of-self : goal.invariant_of-self
invariant_of-self c =
    rest_within c.self.inside.block.now c.in_ok-place.place.now c.in_ok-place.rest.now (within (goal.at.invariant_of-self c).After-get)

pub returns-clause-first : goal.returns-clause-first
returns-clause-first c =
    let rows = c.self.inside.block.now in
    let place = c.in_ok-place.place.now in
    let low : place < length rows = within (goal.at.returns-clause-first c).After-get 0 0 (omega arith) in
    sym c.self.view_is ∙ ap (items_at rows) c.in_ok-place.ensures.cases.0
    ∙ ap (λ xs. xs ++ items_at rows c.in_ok-place.rest.now) (one_item rows place c.get.result.now low ∙ ap (λ x. x ∷ []) (sym c.get.ensures))
