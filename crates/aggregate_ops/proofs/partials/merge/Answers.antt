use Rattle.std.proofs.Common.{◌∙◌, map}
use Rattle.std.proofs.lemmas.Result.{on_ok_weaker, IfErr-weaker}
use Rattle.algebra.specs.Trees.{kind_of_emit}
use Rattle.aggregate_ops.specs.declared.group_rows.Form.TheVariants.{Merged}
use Rattle.aggregate_ops.specs.Columns.{Overflows}
use Rattle.aggregate_ops.specs.Forms.{results_fit, merged_fits}
use Rattle.aggregate_ops.proofs.CellLemmas.{merged_fit}
use Rattle.aggregate_ops.proofs.partials.merge.Goals as goal

pub returns-clause-fits : goal.returns-clause-fits
returns-clause-fits c =
    on_ok_weaker c.grouped.result (λ e. merged_fit (map kind_of_emit c.args.kinds.now) c.args.partials.now ∙ e) c.grouped.ensures.fits

pub returns-clause-fault : goal.returns-clause-fault
returns-clause-fault c =
    let kinds = map kind_of_emit c.args.kinds.now in
    IfErr-weaker c.grouped.result (λ given. Overflows given (results_fit Merged kinds c.args.partials.now)) (λ given. Overflows given (merged_fits kinds c.args.partials.now))
    (λ given e. rw (merged_fit kinds c.args.partials.now) e) c.grouped.ensures.fault
