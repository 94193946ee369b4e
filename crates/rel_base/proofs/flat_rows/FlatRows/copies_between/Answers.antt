use Rattle.std.proofs.Common.{◌∙◌, ◌+◌, ◌-◌, ◌*◌, ◌≤◌, length, length-drop, take, drop, ap, arith}
use Rattle.std.proofs.lemmas.List.{length-take-le}
use Rattle.rel_base.specs.inner.Flat.{row_from, rows_from}
use Rattle.rel_base.specs.inner.Strides.{stepped}
use Rattle.rel_base.proofs.FlatLemmas.{length-rows, part_ends, rows_in_part}
use Rattle.rel_base.proofs.flat_rows.FlatRows.copies_between.Goals as goal

pub part-values-requires : goal.part-values-requires
part-values-requires c =
    let r = c.self.inside in
    let many = length-rows r.width 0 r.width r.len r.values.items in
    let low : c.args.from + (c.args.to - c.args.from) ≤ r.len = omega (arith, c.requires.order, c.requires.within, many, ap length c.self.view_is) in
    omega (arith, part_ends r.width c.args.from (c.args.to - c.args.from) r.len r.values.items c.self.invariant low, ap length c.as_slice.ensures.value)

pub invariant_of-result : goal.invariant_of-result
invariant_of-result c =
    let r = c.self.inside in
    let m = c.args.to - c.args.from in
    let many = length-rows r.width 0 r.width r.len r.values.items in
    let low : c.args.from + m ≤ r.len = omega (arith, c.requires.order, c.requires.within, many, ap length c.self.view_is) in
    let end = part_ends r.width c.args.from m r.len r.values.items c.self.invariant low in
    let values = c.in_ok-copies_of.ensures ∙ c.part-values.ensures ∙ ap (λ vs. row_from (r.width * m) vs (r.width * c.args.from)) c.as_slice.ensures.value in
    ap length values
    ∙ length-take-le (r.width * m) (drop (r.width * c.args.from) r.values.items) (omega (arith, end, length-drop (r.width * c.args.from) r.values.items))

pub returns : goal.returns
returns c =
    let r = c.self.inside in
    let m = c.args.to - c.args.from in
    let many = length-rows r.width 0 r.width r.len r.values.items in
    let low : c.args.from + m ≤ r.len = omega (arith, c.requires.order, c.requires.within, many, ap length c.self.view_is) in
    let values = c.in_ok-copies_of.ensures ∙ c.part-values.ensures ∙ ap (λ vs. row_from (r.width * m) vs (r.width * c.args.from)) c.as_slice.ensures.value in
    ap (λ vs. rows_from r.width vs (stepped 0 r.width m)) values
    ∙ rows_in_part r.width c.args.from m r.len r.values.items low ∙ ap (λ rows. take m (drop c.args.from rows)) c.self.view_is
