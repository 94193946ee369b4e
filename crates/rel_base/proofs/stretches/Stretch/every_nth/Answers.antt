use Rattle.std.proofs.Common.{◌≡◌, ◌∙◌, ◌<◌, ap, length, arith, rules}
use Rattle.rel_base.specs.Picks.{items_at, every_nth}
use Rattle.rel_base.specs.inner.Selections.{places_of}
use Rattle.rel_base.proofs.StrideLemmas.{All-every_nth, items_at-every_nth, length-every_nth}
use Rattle.rel_base.proofs.stretches.Stretch.every_nth.Goals as goal

pub invariant_of-result : goal.invariant_of-result
invariant_of-result c =
    let ps = places_of c.self.inside.selection in
    let block : c.in_ok-block.block ≡ c.self.inside.block = search rules in
    let made : places_of c.in_ok-selection.selection ≡ every_nth ps c.args.step c.args.start = c.in_ok-selection.ensures in (
      rw (made, block) (All-every_nth (λ p. p < length c.self.inside.block) ps c.args.step c.args.start c.requires c.self.invariant.0),
      omega (arith, ap length made, length-every_nth ps c.args.step c.args.start, c.self.invariant.1),
    )

pub returns : goal.returns
returns c =
    let ps = places_of c.self.inside.selection in
    let block : c.in_ok-block.block ≡ c.self.inside.block = search rules in
    let made : places_of c.in_ok-selection.selection ≡ every_nth ps c.args.step c.args.start = c.in_ok-selection.ensures in
    ap (λ b. items_at b (places_of c.in_ok-selection.selection)) block
    ∙ ap (items_at c.self.inside.block) made
    ∙ items_at-every_nth c.self.inside.block ps c.args.step c.args.start c.requires c.self.invariant.0
    ∙ ap (λ xs. every_nth xs c.args.step c.args.start) c.self.view_is
