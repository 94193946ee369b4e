use Rattle.std.proofs.Common.{map}
use Rattle.rel_base.specs.declared.failure.Memory.{Memory}
use Rattle.algebra.specs.CheckedTrees.{step_tree_of}
use Rattle.join_plans.specs.JoinPlans.{ruled_by}
use Rattle.engine.proofs.TermLemmas.{left-wide, right-wide, diff-run}
use Rattle.engine.proofs.UsedLemmas.{used_by_let_go}
use Rattle.engine.proofs.terms.run_step_diff.Goals as goal

pub run_diff-requires-clause-left_width : goal.run_diff-requires-clause-left_width
run_diff-requires-clause-left_width g c κs within =
    let made = c.in_ok-operands in
    left-wide c.args.held.now _ c.args.left c.args.right c.requires.runnable.wide made.operands.left made.ensures.left
    made.operands.width made.ensures.width

pub run_diff-requires-clause-right_width : goal.run_diff-requires-clause-right_width
run_diff-requires-clause-right_width g c κs within =
    let made = c.in_ok-operands in
    right-wide c.args.held.now _ c.args.left c.args.right c.requires.runnable.wide made.operands.right made.ensures.right
    made.operands.width made.ensures.width

pub returns-clause-run : goal.returns-clause-run
returns-clause-run g c =
    let step = c.args.run.now.step.now in
    let made = c.in_ok-operands in
    diff-run c.args.settings.now (ruled_by c.args.run.now.by) step.statement c.args.held.now g.T.Tap.totals g.T.Tap.tag (λ (f : Memory). Unit)
    c.args.left c.args.right made.operands.left made.operands.right made.ensures.left made.ensures.right
    c.args.taps.now.items c.run_diff.new.taps.items c.in_ok-moved.moved c.in_ok-moved.ensures

pub returns-in_err-moved-clause-used : goal.returns-in_err-moved-clause-used
returns-in_err-moved-clause-used g c =
    let run = c.args.run.now in
    used_by_let_go run.stores.now (map step_tree_of run.steps.now) c.args.held.now.results.items
    c.let_go.new.self.results.items c.let_go.ensures.results

pub returns-clause-used : goal.returns-clause-used
returns-clause-used g c =
    let run = c.args.run.now in
    used_by_let_go run.stores.now (map step_tree_of run.steps.now) c.args.held.now.results.items
    c.let_go.new.self.results.items c.let_go.ensures.results
