use Rattle.std.proofs.Common.{◌≡◌, ◌∙◌, ◌+◌, ◌*◌, ◌<◌, ◌^◌, [], ◌∷◌, ◌++◌, length, sym, ap, arith, rules, length-append}
use Rattle.rel_base.specs.inner.Flat.{rows_from}
use Rattle.rel_base.specs.inner.Strides.{stepped}
use Rattle.rel_base.proofs.FlatLemmas.{length-rows, rows_more, rows_of_width}
use Rattle.rel_base.proofs.flat_rows.FlatRows.push.Goals as goal
use Rattle.rel_base.proofs.flat_rows.FlatRows.push.Goals.{After-move_to}

-- the rows are of the width that the new row has
same : (c : After-move_to) → (length c.self.inside.values.items ≡ c.len-self-inside.result * c.self.inside.len)
    × (rows_from c.len-self-inside.result c.self.inside.values.items (stepped 0 c.len-self-inside.result c.self.inside.len) ≡ c.args.self.now)
same c =
    let all = rw (sym c.self.view_is) at c.requires.width in
    let both = rows_of_width c.self.inside.width (length c.args.row.now) c.self.inside.len c.self.inside.values.items c.self.invariant all in
    rw c.len-self-inside.ensures (both.0, both.1 ∙ c.self.view_is)

pub invariant_of-self : goal.invariant_of-self
invariant_of-self c = ap length c.in_err-move_to.ensures.err ∙ (same (goal.at.invariant_of-self c).After-move_to).0

pub returns-in_err-move_to-clause-err : goal.returns-in_err-move_to-clause-err
returns-in_err-move_to-clause-err c =
    let m = c.len-self-inside.result in
    let n = c.self.inside.len in
    let kept : rows_from m c.move_to.new.into.items (stepped 0 m n) ≡ c.args.self.now =
    ap (λ vs. rows_from m vs (stepped 0 m n)) c.in_err-move_to.ensures.err
    ∙ (same (goal.at.returns-in_err-move_to-clause-err c).After-move_to).1 in
    search (rules, kept)

pub overflow_add-self : goal.overflow_add-self
overflow_add-self c =
    let w = c.self.inside.width in
    let many = length-rows w 0 w c.self.inside.len c.self.inside.values.items in
    let few : c.self.inside.len + 1 < 2 ^ 32 = omega (arith, c.requires.room, ap length c.self.view_is, many) in
    search (rules, few)

pub invariant_of-self-2 : goal.invariant_of-self-2
invariant_of-self-2 c =
    let m = c.len-self-inside.result in
    let n = c.self.inside.len in
    let full = (same (goal.at.invariant_of-self-2 c).After-move_to).0 in
    let more : m * n + m ≡ m * (n + 1) = grind arith in
    let sizes = ap length c.in_ok-move_to.ensures.ok ∙ length-append c.self.inside.values.items c.args.row.now in
    omega (arith, sizes, full, more, c.len-self-inside.ensures)

pub returns-clause-ok : goal.returns-clause-ok
returns-clause-ok c =
    let m = c.len-self-inside.result in
    let n = c.self.inside.len in
    let both = same (goal.at.returns-clause-ok c).After-move_to in
    ap (λ vs. rows_from m vs (stepped 0 m (n + 1))) c.in_ok-move_to.ensures.ok
    ∙ rows_more m n c.self.inside.values.items c.args.row.now both.0 (sym c.len-self-inside.ensures)
    ∙ ap (λ rows. rows ++ c.args.row.now ∷ []) both.1
