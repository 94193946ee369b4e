use Rattle.std.proofs.Common.{◌≡◌, ℕ, sym, ◌∙◌, ap, arith, rules, ◌<◌, ◌-◌, length, get_or, map}
use Rattle.std.proofs.lemmas.List.{get_or-map, length-map}
use Rattle.std.proofs.lemmas.Simd.{map-map}
use Rattle.rel_base.specs.Picks.{items_at}
use Rattle.rel_base.specs.inner.Selections.{places_of}
use Rattle.rel_base.proofs.PickLemmas.{items_at-length, items_at-items_at}
use Rattle.rel_base.proofs.stretches.Stretch.at_numbers.Goals as goal

pub places-requires-clause-high : goal.places-requires-clause-high
places-requires-clause-high c = λ k d low.
    omega (arith, items_at-length _ _ _ c.self.invariant.0 c.self.view_is, c.requires.high k d low)

pub invariant_of-result : goal.invariant_of-result
invariant_of-result c =
    let same = items_at-length _ _ _ c.self.invariant.0 c.self.view_is in
    let ns = c.args.numbers.now in
    let places = places_of c.self.inside.selection in
    let f : ℕ → ℕ = λ n. get_or places (n - c.args.first) 0 in
    let block : c.in_ok-block.block ≡ c.self.inside.block = search rules in
    let made : c.in_ok-places.places.items ≡ map f ns = c.in_ok-places.ensures in (
      (λ k d low. let low2 : k < length ns = omega (arith, low, ap length made, length-map ns f) in
          let here = get_or-map f ns k 0 d low2 in
          let inside : get_or ns k 0 - c.args.first < length places = omega (arith, same, c.requires.high k 0 low2, c.requires.low k 0 low2) in
          rw (made, here, block) (c.self.invariant.0 (get_or ns k 0 - c.args.first) 0 inside)),
      omega (arith, ap length made, length-map ns f, c.requires.room),
    )

pub returns : goal.returns
returns c =
    let same = items_at-length _ _ _ c.self.invariant.0 c.self.view_is in
    let ns = c.args.numbers.now in
    let first = c.args.first in
    let places = places_of c.self.inside.selection in
    let block : c.in_ok-block.block ≡ c.self.inside.block = search rules in
    ap (λ b. items_at b c.in_ok-places.places.items) block
    ∙ ap (items_at c.self.inside.block) (c.in_ok-places.ensures ∙ sym (map-map (λ i. get_or places i 0) (λ n. n - first) ns))
    ∙ sym (items_at-items_at c.self.inside.block places (map (λ n. n - first) ns) c.self.invariant.0
    (λ k d low. let low2 : k < length ns = omega (arith, low, length-map ns (λ n. n - first)) in
    rw (get_or-map (λ n. n - first) ns k 0 d low2) (omega (arith, same, c.requires.high k 0 low2, c.requires.low k 0 low2))))
    ∙ ap (λ xs. items_at xs (map (λ n. n - first) ns)) c.self.view_is
