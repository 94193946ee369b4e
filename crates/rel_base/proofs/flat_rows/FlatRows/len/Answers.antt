use Rattle.std.proofs.Common.{◌∙◌, length, sym, ap}
use Rattle.rel_base.proofs.FlatLemmas.{length-rows}
use Rattle.rel_base.proofs.flat_rows.FlatRows.len.Goals as goal

pub returns : goal.returns
returns c =
    let w = c.self.inside.width in
    sym (length-rows w 0 w c.self.inside.len c.self.inside.values.items) ∙ ap length c.self.view_is
