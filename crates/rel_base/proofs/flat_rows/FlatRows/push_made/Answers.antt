use Rattle.std.proofs.Common.{◌≡◌, ◌∙◌, ◌+◌, ◌*◌, ◌<◌, ◌^◌, [], ◌∷◌, ◌++◌, length, take, sym, ap, arith, rules, length-append}
use Rattle.rel_base.specs.inner.Flat.{rows_from}
use Rattle.rel_base.specs.inner.Strides.{stepped}
use Rattle.rel_base.proofs.FlatLemmas.{length-rows, rows_more, rows_of_width}
use Rattle.rel_base.proofs.flat_rows.FlatRows.push_made.Goals as goal

pub overflow_add-self : goal.overflow_add-self
overflow_add-self g c =
    let w = c.self.inside.width in
    let many = length-rows w 0 w c.self.inside.len c.self.inside.values.items in
    let few : c.self.inside.len + 1 < 2 ^ 32 = omega (arith, c.requires.room, ap length c.self.view_is, many) in
    search (rules, few)

pub invariant_of-self : goal.invariant_of-self
invariant_of-self g c =
    let m = c.width-self-inside.result in
    let n = c.self.inside.len in
    let row = g.S.RowSource.values c.args.source.now in
    let all = rw (sym c.self.view_is) at c.requires.width in
    let both = rows_of_width c.self.inside.width (length row) n c.self.inside.values.items c.self.invariant all in
    let full : length c.self.inside.values.items ≡ m * n = rw c.width-self-inside.ensures both.0 in
    let more : m * n + m ≡ m * (n + 1) = grind arith in
    let sizes = ap length c.in-Ok.ensures.put ∙ length-append c.self.inside.values.items row in
    omega (arith, sizes, full, more, c.width-self-inside.ensures)

pub invariant_of-self-in-Err : goal.invariant_of-self-in-Err
invariant_of-self-in-Err g c =
    let row = g.S.RowSource.values c.args.source.now in
    let all = rw (sym c.self.view_is) at c.requires.width in
    let both = rows_of_width c.self.inside.width (length row) c.self.inside.len c.self.inside.values.items c.self.invariant all in
    let full : length c.self.inside.values.items ≡ c.width-self-inside.result * c.self.inside.len = rw c.width-self-inside.ensures both.0 in
    let start : c.len-start.result ≡ length c.self.inside.values.items = c.len-start.ensures ∙ c.self.inside.values.ok.0 in
    ap length (c.truncate.ensures.items ∙ ap (λ k. take k c.put_values.new.into.items) start ∙ c.put_values.ensures.kept) ∙ full

pub returns-in-Ok-clause-ok : goal.returns-in-Ok-clause-ok
returns-in-Ok-clause-ok g c =
    let m = c.width-self-inside.result in
    let n = c.self.inside.len in
    let row = g.S.RowSource.values c.args.source.now in
    let all = rw (sym c.self.view_is) at c.requires.width in
    let both = rows_of_width c.self.inside.width (length row) n c.self.inside.values.items c.self.invariant all in
    let full : length c.self.inside.values.items ≡ m * n = rw c.width-self-inside.ensures both.0 in
    let same : rows_from m c.self.inside.values.items (stepped 0 m n) ≡ c.args.self.now = rw c.width-self-inside.ensures (both.1 ∙ c.self.view_is) in
    ap (λ vs. rows_from m vs (stepped 0 m (n + 1))) c.in-Ok.ensures.put
    ∙ rows_more m n c.self.inside.values.items row full (sym c.width-self-inside.ensures) ∙ ap (λ rows. rows ++ row ∷ []) same

pub returns-in-Err-clause-err : goal.returns-in-Err-clause-err
returns-in-Err-clause-err g c =
    let m = c.width-self-inside.result in
    let n = c.self.inside.len in
    let row = g.S.RowSource.values c.args.source.now in
    let all = rw (sym c.self.view_is) at c.requires.width in
    let both = rows_of_width c.self.inside.width (length row) n c.self.inside.values.items c.self.invariant all in
    let same : rows_from m c.self.inside.values.items (stepped 0 m n) ≡ c.args.self.now = rw c.width-self-inside.ensures (both.1 ∙ c.self.view_is) in
    let start : c.len-start.result ≡ length c.self.inside.values.items = c.len-start.ensures ∙ c.self.inside.values.ok.0 in
    ap (λ vs. rows_from m vs (stepped 0 m n)) (c.truncate.ensures.items ∙ ap (λ k. take k c.put_values.new.into.items) start ∙ c.put_values.ensures.kept) ∙ same
