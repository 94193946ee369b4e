use Rattle.std.proofs.Common.{◌∙◌, length, sym, ap, arith}
use Rattle.rel_base.specs.Picks.{items_at}
use Rattle.rel_base.specs.inner.Strides.{stepped}
use Rattle.rel_base.proofs.FlatLemmas.{length-rows}
use Rattle.rel_base.proofs.PickLemmas.{items_at-all, stepped_within}
use Rattle.rel_base.proofs.flat_rows.FlatRows.all.Goals as goal

pub run-requires : goal.run-requires
run-requires c =
    let w = c.self.inside.width in
    let many = sym (length-rows w 0 w c.self.inside.len c.self.inside.values.items) ∙ ap length c.self.view_is in
    stepped_within 0 1 c.self.inside.len (length c.args.self.now) (λ i low. omega (arith, low, many))

pub returns : goal.returns
returns c =
    let w = c.self.inside.width in
    let many = sym (length-rows w 0 w c.self.inside.len c.self.inside.values.items) ∙ ap length c.self.view_is in
    c.run.ensures ∙ ap (λ n. items_at c.args.self.now (stepped 0 1 n)) many ∙ items_at-all c.args.self.now
