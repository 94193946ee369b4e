use Rattle.std.proofs.Common.{◌∙◌, ◌*◌, ◌<◌, length, All, sym, ap, arith}
use Rattle.rel_base.specs.Picks.{items_at}
use Rattle.rel_base.specs.inner.Flat.{rows_from}
use Rattle.rel_base.specs.inner.Strides.{stepped}
use Rattle.rel_base.proofs.FlatLemmas.{length-rows, rows_apart, rows_apart_within}
use Rattle.rel_base.proofs.flat_rows.FlatRows.run.Goals as goal
use Rattle.rel_base.proofs.flat_rows.FlatRows.run.Goals.{After-as_slice}

-- the numbers lie below the number of rows
within : (c : After-as_slice) → All (λ i. i < c.self.inside.len) (stepped c.args.start c.args.step c.args.len)
within c k d low =
    let w = c.self.inside.width in
    omega (arith, c.requires k d low, ap length c.self.view_is, length-rows w 0 w c.self.inside.len c.self.inside.values.items)

pub of-requires : goal.of-requires
of-requires c =
    let inside = rows_apart_within c.self.inside.width c.args.start c.args.step c.args.len c.self.inside.len c.self.inside.values.items c.self.invariant
    (within (goal.at.of-requires c).After-as_slice) in
    rw (sym c.as_slice.ensures.value) at inside

pub returns : goal.returns
returns c =
    let w = c.self.inside.width in
    let ps = stepped (w * c.args.start) (w * c.args.step) c.args.len in
    c.of.ensures ∙ ap (λ values. rows_from w values ps) c.as_slice.ensures.value
    ∙ rows_apart w c.args.start c.args.step c.args.len c.self.inside.len c.self.inside.values.items (within (goal.at.returns c).After-as_slice)
    ∙ ap (λ rows. items_at rows (stepped c.args.start c.args.step c.args.len)) c.self.view_is
