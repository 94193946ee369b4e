use Rattle.std.proofs.Common.{◌∙◌, ◌+◌, ◌-◌, ◌<◌, ◌∷◌, ◌%◌, ◌^◌, sym, ap, arith}
use Rattle.rel_base.specs.inner.Flat.{rows_from}
use Rattle.rel_base.specs.inner.Strides.{stepped}
use Rattle.rel_base.proofs.FlatLemmas.{first_row, rest_within_values}
use Rattle.rel_base.proofs.flat_rows.RowRun.take_first.Goals as goal

pub invariant_of-self : goal.invariant_of-self
invariant_of-self c =
    let r = c.self.inside in
    let some : 0 < r.len = omega (arith, c.if-self-eq0.false) in
    (rest_within_values r.width r.next r.step r.len r.values.now some c.self.invariant.1 c.self.invariant.0, c.self.invariant.1)

pub returns-clause-first : goal.returns-clause-first
returns-clause-first c =
    let r = c.self.inside in
    let some : 0 < r.len = omega (arith, c.if-self-eq0.false) in
    let rest = rows_from r.width r.values.now (stepped ((r.next + r.step) % 2 ^ 64) r.step (r.len - 1)) in
    sym c.self.view_is ∙ first_row r.width r.next r.step r.len r.values.now some c.self.invariant.1 c.self.invariant.0
    ∙ ap (λ row. row ∷ rest) (sym c.part-row.ensures)
