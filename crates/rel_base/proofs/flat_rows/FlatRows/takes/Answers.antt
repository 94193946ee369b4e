use Rattle.std.proofs.Common.{◌∙◌}
use Rattle.std.proofs.lemmas.Bool.{eqb-true}
use Rattle.rel_base.proofs.FlatLemmas.{rows_width}
use Rattle.rel_base.proofs.flat_rows.FlatRows.takes.Goals as goal

pub returns-else-self-eq0 : goal.returns-else-self-eq0
returns-else-self-eq0 c same =
    let all = rows_width c.self.inside.width c.self.inside.len c.self.inside.values.items c.self.invariant in
    let shown = rw c.self.view_is at all in
    λ k d low. shown k d low ∙ eqb-true c.self.inside.width c.args.width same
