use Rattle.rel_base.proofs.FlatLemmas.{rows_width}
use Rattle.rel_base.proofs.flat_rows.FlatRows.width.Goals as goal

pub returns : goal.returns
returns c =
    let all = rows_width c.self.inside.width c.self.inside.len c.self.inside.values.items c.self.invariant in
    rw c.self.view_is at all
