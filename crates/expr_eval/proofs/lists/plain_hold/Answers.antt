use Rattle.std.proofs.Common.{sym, ◌∙◌}
use Rattle.myrial_ast.specs.Scalars.{holds}
use Rattle.expr_eval.proofs.ListLemmas.{list_all-fails}
use Rattle.expr_eval.proofs.lists.plain_hold.Goals as goal

pub returns-in-Ok-false : goal.returns-in-Ok-false
returns-in-Ok-false g c =
    sym (list_all-fails (λ e. holds e (g.R.RowView.values c.args.row.now)) c.args.scalars.now c.loop-scalar.scalar-index c.scalar-item.result
    c.loop-scalar-test.true c.scalar-item.is (sym c.in-Ok-false.ensures.value ∙ c.in-Ok-false.field-0-test))
