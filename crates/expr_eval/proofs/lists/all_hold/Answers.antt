use Rattle.std.proofs.Common.{arith}
use Rattle.std.proofs.lemmas.Grind.{common_steps}
use Rattle.myrial_ast.specs.Scalars.{fits}
use Rattle.expr_eval.proofs.ListLemmas.{list_all-fails}
use Rattle.expr_eval.proofs.lists.all_hold.Goals as goal

-- an overflow is told, and no truth with it
pub returns-in-Err-clause-fits : goal.returns-in-Err-clause-fits
returns-in-Err-clause-fits g c = grind (arith, common_steps)

pub returns-in-Err-clause-value : goal.returns-in-Err-clause-value
returns-in-Err-clause-value g c = grind (arith, common_steps)

pub returns-in-Err-clause-overflow : goal.returns-in-Err-clause-overflow
returns-in-Err-clause-overflow g c =
    list_all-fails (λ e. fits e (g.R.RowView.values c.args.row.now)) c.args.scalars.now c.loop-scalar.scalar-index c.scalar-item.result
    c.loop-scalar-test.true c.scalar-item.is c.in-Err.ensures.overflow
