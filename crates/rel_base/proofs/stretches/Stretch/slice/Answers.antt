use Rattle.std.proofs.Common.{◌≡◌, ◌∙◌, ℕ, ◌-◌, ◌<◌, List, All, sym, ap, length, map, get_or, arith, rules}
use Rattle.std.proofs.lemmas.List.{get_or-map, length-map}
use Rattle.rel_base.specs.Picks.{items_at}
use Rattle.rel_base.specs.inner.Selections.{places_of}
use Rattle.rel_base.specs.inner.Strides.{stepped}
use Rattle.rel_base.proofs.PickLemmas.{items_at-items_at, items_at-length, length-stepped}
use Rattle.rel_base.proofs.RangeLemmas.{stepped-below}
use Rattle.rel_base.proofs.stretches.Stretch.slice.Goals as goal

pub slice-requires-clause-within : goal.slice-requires-clause-within
slice-requires-clause-within c =
    omega (arith, items_at-length _ _ _ c.self.invariant.0 c.self.view_is, c.requires.within)

-- places of a selection, by their numbers, lie where its places lie
picked_within : (ps ns : List ℕ) (end : ℕ) → All (λ p. p < end) ps → All (λ n. n < length ps) ns
    → All (λ p. p < end) (map (λ n. get_or ps n 0) ns)
picked_within ps ns end within low k d less =
    let low2 : k < length ns = omega (arith, less, length-map ns (λ n. get_or ps n 0)) in
    rw (get_or-map (λ n. get_or ps n 0) ns k 0 d low2) (within (get_or ns k 0) 0 (low k 0 low2))

pub invariant_of-result : goal.invariant_of-result
invariant_of-result c =
    let ps = places_of c.self.inside.selection in
    let n = c.args.to - c.args.from in
    let ns = stepped c.args.from 1 n in
    let same = items_at-length _ _ _ c.self.invariant.0 c.self.view_is in
    let block : c.in_ok-block.block ≡ c.self.inside.block = search rules in
    let made : places_of c.in_ok-selection.selection ≡ map (λ k. get_or ps k 0) ns = c.in_ok-selection.ensures in
    let low = stepped-below c.args.from n (length ps) (omega (arith, same, c.requires.within, c.requires.order)) in (
      rw (made, block) (picked_within ps ns (length c.self.inside.block) c.self.invariant.0 low),
      omega (
        arith,
        ap length made,
        length-map ns (λ k. get_or ps k 0),
        length-stepped c.args.from 1 n,
        same,
        c.self.invariant.1,
        c.requires.within,
      ),
    )

pub returns : goal.returns
returns c =
    let ps = places_of c.self.inside.selection in
    let n = c.args.to - c.args.from in
    let ns = stepped c.args.from 1 n in
    let same = items_at-length _ _ _ c.self.invariant.0 c.self.view_is in
    let block : c.in_ok-block.block ≡ c.self.inside.block = search rules in
    let made : places_of c.in_ok-selection.selection ≡ map (λ k. get_or ps k 0) ns = c.in_ok-selection.ensures in
    let low = stepped-below c.args.from n (length ps) (omega (arith, same, c.requires.within, c.requires.order)) in
    ap (λ b. items_at b (places_of c.in_ok-selection.selection)) block
    ∙ ap (items_at c.self.inside.block) made
    ∙ sym (items_at-items_at c.self.inside.block ps ns c.self.invariant.0 low)
    ∙ ap (λ xs. items_at xs ns) c.self.view_is
