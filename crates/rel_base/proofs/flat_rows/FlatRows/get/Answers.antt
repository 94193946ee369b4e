use Rattle.std.proofs.Common.{◌≡◌, ◌∙◌, ◌+◌, ◌*◌, ◌<◌, length, get_or, sym, ap, arith}
use Rattle.rel_base.specs.inner.Flat.{row_from}
use Rattle.rel_base.proofs.FlatLemmas.{length-rows, row_end, row_number}
use Rattle.rel_base.proofs.flat_rows.FlatRows.get.Goals as goal

pub part-requires : goal.part-requires
part-requires c =
    let w = c.self.inside.width in
    let n = c.self.inside.len in
    let vs = c.self.inside.values.items in
    let low : c.args.i < n = omega (arith, c.requires, ap length c.self.view_is, length-rows w 0 w n vs) in
    omega (arith, row_end w n c.args.i vs c.self.invariant low, ap length c.as_slice.ensures.value)

pub returns : goal.returns
returns c =
    let w = c.self.inside.width in
    let n = c.self.inside.len in
    let vs = c.self.inside.values.items in
    let low : c.args.i < n = omega (arith, c.requires, ap length c.self.view_is, length-rows w 0 w n vs) in
    let place : w * c.args.i ≡ 0 + w * c.args.i = omega arith in
    c.part.ensures ∙ ap (λ values. row_from w values (w * c.args.i)) c.as_slice.ensures.value ∙ ap (row_from w vs) place
    ∙ sym (row_number w 0 w n c.args.i vs c.part.result.now low) ∙ ap (λ rows. get_or rows c.args.i c.part.result.now) c.self.view_is
