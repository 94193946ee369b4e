use Rattle.std.proofs.Common.{map, ◌∙◌}
use Rattle.rel_base.specs.declared.failure.Memory.{Memory}
use Rattle.algebra.specs.CheckedTrees.{step_tree_of}
use Rattle.join_plans.specs.JoinPlans.{ruled_by}
use Rattle.engine.proofs.TermLemmas.{source-wide, distinct-run}
use Rattle.engine.proofs.UsedLemmas.{used_by_let_go}
use Rattle.engine.proofs.terms.run_step_distinct.Goals as goal

pub run_distinct-requires-clause-width : goal.run_distinct-requires-clause-width
run_distinct-requires-clause-width g c κs within =
    source-wide c.args.held.now _ c.args.source c.requires.runnable.wide c.in_ok-parts.parts
    (c.in_ok-parts.ensures ∙ c.parts_of.ensures) c.len-width.result c.len-width.ensures

pub returns-clause-run : goal.returns-clause-run
returns-clause-run g c =
    let step = c.args.run.now.step.now in
    distinct-run c.args.settings.now (ruled_by c.args.run.now.by) step.statement c.args.held.now g.T.Tap.totals g.T.Tap.tag (λ (f : Memory). Unit)
    c.args.source c.in_ok-parts.parts (c.in_ok-parts.ensures ∙ c.parts_of.ensures)
    c.args.taps.now.items c.run_distinct.new.taps.items c.in_ok-moved.moved c.in_ok-moved.ensures

pub returns-in_err-moved-clause-used : goal.returns-in_err-moved-clause-used
returns-in_err-moved-clause-used g c =
    let run = c.args.run.now in
    used_by_let_go run.stores.now (map step_tree_of run.steps.now) c.args.held.now.results.items
    c.let_go.new.self.results.items c.let_go.ensures.results

pub returns-clause-used : goal.returns-clause-used
returns-clause-used g c =
    let run = c.args.run.now in
    used_by_let_go run.stores.now (map step_tree_of run.steps.now) c.args.held.now.results.items
    c.let_go.new.self.results.items c.let_go.ensures.results
