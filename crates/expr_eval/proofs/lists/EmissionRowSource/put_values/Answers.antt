use Rattle.std.proofs.Common.{List, map, subst, arith}
use Rattle.std.proofs.lemmas.Grind.{common_steps}
use Rattle.myrial_ast.specs.declared.scalars.Scalar as code
use Rattle.myrial_ast.specs.ScalarTrees.{scalar_tree_of}
use Rattle.expr_eval.specs.Results.{IsListFault}
use Rattle.expr_eval.proofs.ListLemmas.{IsListFault-one}
use Rattle.expr_eval.proofs.lists.EmissionRowSource.put_values.Goals as goal

pub returns-in-Err-clause-fault : goal.returns-in-Err-clause-fault
returns-in-Err-clause-fault g c =
    let slice = c.as_slice-scalar-items in
    subst (λ (es : List code.Scalar). IsListFault c.in-Err.fault (map scalar_tree_of es) (g.R.RowView.values c.args.self.now.row.now)) slice.ensures.value
    (IsListFault-one c.in-Err.fault (g.R.RowView.values c.args.self.now.row.now) slice.result.now c.loop-scalar.scalar-index c.scalar-item.result
    c.loop-scalar-test.true c.scalar-item.is c.in-Err.ensures.fault)

pub loop-scalar-preserved : goal.loop-scalar-preserved
loop-scalar-preserved g c = grind (arith, common_steps)

pub returns-clause-put : goal.returns-clause-put
returns-clause-put g c = grind (arith, common_steps)

pub returns-clause-made : goal.returns-clause-made
returns-clause-made g c = grind (arith, common_steps)

pub returns-in-Err-clause-kept : goal.returns-in-Err-clause-kept
returns-in-Err-clause-kept g c = grind (arith, common_steps)

pub returns-then-is_err-clause-kept : goal.returns-then-is_err-clause-kept
returns-then-is_err-clause-kept g c = grind (arith, common_steps)
