use Rattle.std.proofs.Common.{◌≡◌, ◌∙◌, Some, None, sym, ap, rules}
use Rattle.std.specs.Result.{result_err}
use Rattle.algebra.specs.CheckedTrees.{checked_tree_of}
use Rattle.fragmenter.specs.Plans.{misfit, plan_tree_of}
use Rattle.fragmenter.specs.declared.plans.Misfit.TheVariants as unfit
use Rattle.fragmenter.proofs.NotedLemmas.{same_joins}
use Rattle.myria_top.specs.Plans.{needed_joins}
use Rattle.myria_top.proofs.ReplayLemmas.{no_plan, other_joins, plan_fits}
use Rattle.myria_top.proofs.replaying.plan_of_bytes.Goals as goal

pub returns-in-Err-NotPlan-clause-agrees : goal.returns-in-Err-NotPlan-clause-agrees
returns-in-Err-NotPlan-clause-agrees c =
    no_plan c.args.workers (needed_joins (checked_tree_of c.args.checked.now)) c.args.bytes.now (search rules)

pub returns-in-Ok-fits-clause-agrees : goal.returns-in-Ok-fits-clause-agrees
returns-in-Ok-fits-clause-agrees c =
    let joins = needed_joins (checked_tree_of c.args.checked.now) in
    let plan = plan_tree_of c.in-Ok.plan in
    let same = same_joins _ _ c.in-Ok-rewrite.ensures.rewritten.steps in
    let none : misfit plan joins c.args.workers ≡ None =
    ap (λ js. misfit plan js c.args.workers) same ∙ sym c.fits.ensures ∙ ap result_err c.in-Ok-fits.is in
    plan_fits c.args.workers joins c.args.bytes.now plan c.in-Ok.ensures.ok none

pub returns-clause-agrees : goal.returns-clause-agrees
returns-clause-agrees c =
    let joins = needed_joins (checked_tree_of c.args.checked.now) in
    let plan = plan_tree_of c.in-Ok.plan in
    let statement = c.in-Err-Statement.statement in
    let same = same_joins _ _ c.in-Ok-rewrite.ensures.rewritten.steps in
    let is : result_err c.fits.result ≡ Some (unfit.Statement statement) = search rules in
    let found : misfit plan joins c.args.workers ≡ Some (unfit.Statement statement) =
    ap (λ js. misfit plan js c.args.workers) same ∙ sym c.fits.ensures ∙ is in
    other_joins c.args.workers joins c.args.bytes.now plan c.in-Ok.ensures.ok statement found
