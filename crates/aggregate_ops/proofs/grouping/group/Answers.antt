use Rattle.std.proofs.Common.{map}
use Rattle.std.proofs.lemmas.Result.{IfOk-weaker}
use Rattle.rel_base.specs.Bags.{SameBag}
use Rattle.myrial_ast.specs.Groups.{groups}
use Rattle.algebra.specs.Trees.{kind_of_emit}
use Rattle.aggregate_ops.specs.declared.group_rows.Form.TheVariants.{Whole}
use Rattle.aggregate_ops.specs.Forms.{results}
use Rattle.aggregate_ops.proofs.CellLemmas.{results_whole}
use Rattle.aggregate_ops.proofs.grouping.group.Goals as goal

pub returns-clause-bag : goal.returns-clause-bag
returns-clause-bag c =
    let kinds = map kind_of_emit c.args.kinds.now in
    IfOk-weaker c.grouped.result (λ made. SameBag (results Whole kinds c.args.rows.now) made) (λ made. SameBag (groups kinds c.args.rows.now) made)
    (λ made p. rw results_whole at p) c.grouped.ensures.bag
