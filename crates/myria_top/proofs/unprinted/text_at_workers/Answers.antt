use Rattle.algebra.specs.CheckedTrees.{checked_tree_of}
use Rattle.fragmenter.specs.Plans.{lent_plan}
use Rattle.myria_top.proofs.CheckedLemmas.{ran-prints, ran-refuses, ran-whole}
use Rattle.myria_top.proofs.MoveLemmas.{moved-at-workers}
use Rattle.myria_top.proofs.VerdictLemmas.{meets_step}
use Rattle.myria_top.proofs.unprinted.text_at_workers.Goals as goal

pub text_of_ran-requires-clause-whole : goal.text_of_ran-requires-clause-whole
text_of_ran-requires-clause-whole g c κs within =
    ran-whole c.args.request.now (lent_plan c.args.plan) c.args.files (checked_tree_of c.args.checked.now) c.in-Ok.ran c.requires.of c.requires.typed
    c.in-Ok.ensures.ok.0

pub returns-clause-agrees : goal.returns-clause-agrees
returns-clause-agrees g c =
    meets_step _ _
    (ran-prints c.args.request.now (lent_plan c.args.plan) c.args.files (checked_tree_of c.args.checked.now) c.requires.workers c.in-Ok.ran
    c.in-Ok-text_of_ran.text c.requires.of c.requires.typed c.in-Ok.ensures.ok.0 c.in-Ok-text_of_ran.ensures)

pub returns-clause-moved : goal.returns-clause-moved
returns-clause-moved g c =
    moved-at-workers c.args.request.now (lent_plan c.args.plan) c.args.files (checked_tree_of c.args.checked.now) g.T.Tap.totals g.T.Tap.tag _ _ _
    c.requires.workers c.in-Ok.ensures.ok.0.receipts c.in-Ok.ensures.ok.1

pub returns-in-Err-clause-agrees : goal.returns-in-Err-clause-agrees
returns-in-Err-clause-agrees g c =
    ran-refuses c.args.request.now (lent_plan c.args.plan) c.args.files (checked_tree_of c.args.checked.now) c.requires.workers c.in-Err.fault c.from.result
    c.from.ensures c.in-Err.ensures.err
