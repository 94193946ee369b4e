use Rattle.std.proofs.Common.{◌≡◌, List, ℕ, Option, Some, subst}
use Rattle.rel_io.specs.Shelves.{CallCounts, counts_of}
use Rattle.myrial_ast.specs.Trees.{trees_of}
use Rattle.algebra.specs.CheckedTrees.{checked_tree_of}
use Rattle.algebra.specs.Trees.{CheckedTree}
use Rattle.fragmenter.specs.Plans.{PlanTree, plan_tree_of}
use Rattle.myria_top.specs.Moves.{HasMoved}
use Rattle.myria_top.specs.Plans.{named_plan, plan_named}
use Rattle.myria_top.specs.Reading.{Agrees, Meets}
use Rattle.myria_top.specs.Runs.{typed_verdict}
use Rattle.myria_top.specs.Verdicts.{passes}
use Rattle.myria_top.specs.inner.Working.{checked_verdict, text_of, IsOfRun}
use Rattle.myria_top.proofs.CheckedLemmas.{checked_is_typed}
use Rattle.myria_top.proofs.MoveLemmas.{carried-ok, checked-one}
use Rattle.myria_top.proofs.ReplayLemmas.{plan-one, plan_runs}
use Rattle.myria_top.proofs.ScriptLemmas.{run_cause, text_kind}
use Rattle.myria_top.proofs.replaying.text_of_replay.Goals as goal

pub text_at_workers-requires-clause-of : goal.text_at_workers-requires-clause-of
text_at_workers-requires-clause-of g c κs within =
    c.steps_are_of_the_files.ensures c.args.files (trees_of c.args.script.now) _ c.requires.formed c.in-Ok.ensures.checked

pub returns-clause-read : goal.returns-clause-read
returns-clause-read g c =
    let r = c.args.request.now in
    let files = c.args.files in
    let script = trees_of c.args.script.now in
    let checked = checked_tree_of c.in-Ok.checked in
    let plan = plan_tree_of c.in-Ok-read_plan_for.plan in
    let read = c.in-Ok-read_plan_for.ensures.read in
    let counts : CallCounts = counts_of g.F.Shelf c.args.shelf.now c.read_plan_for.new.shelf in
    let text = text_of c.text_at_workers.result in
    let same : checked_verdict r (Some plan) files checked ≡ typed_verdict r script files checked (Some plan) =
    checked_is_typed r (Some plan) files checked c.steps_have_the_fault.ensures c.steps_mean_the_script.ensures script c.requires.formed c.in-Ok.ensures.checked in
    record {
      agrees =
          plan_runs r (g.F.Shelf.content c.args.shelf.now) script files checked c.requires.replay c.in-Ok.ensures.checked plan text read.agrees
          (subst (λ v. Agrees v text) same c.text_at_workers.ensures.agrees);
      cause =
          run_cause {X = List ℕ} counts (λ name. name ≡ plan_named r) text
          (text_kind IsOfRun c.text_at_workers.result c.text_at_workers.ensures.kind);
      kept = read.kept;
    }

pub returns-clause-moved : goal.returns-clause-moved
returns-clause-moved g c =
    let r = c.args.request.now in
    let files = c.args.files in
    let script = trees_of c.args.script.now in
    let content = g.F.Shelf.content c.args.shelf.now in
    let checked = checked_tree_of c.in-Ok.checked in
    let plan = plan_tree_of c.in-Ok-read_plan_for.plan in
    carried-ok c.text_at_workers.result
    (λ made moved d other typed by_plan.
    let one : checked ≡ d = checked-one files script checked d c.in-Ok.ensures.checked typed in
    subst (λ (p : Option PlanTree). HasMoved r p files d g.T.Tap.totals g.T.Tap.tag c.args.taps.now.items c.text_at_workers.new.taps.items made.receipts)
    (plan-one r content script files d c.requires.replay typed plan other
    (subst (λ (e : CheckedTree). Meets (λ s. s ≡ named_plan r content e) (passes plan)) one c.in-Ok-read_plan_for.ensures.read.agrees) by_plan)
    (subst (λ (e : CheckedTree). HasMoved r (Some plan) files e g.T.Tap.totals g.T.Tap.tag c.args.taps.now.items c.text_at_workers.new.taps.items made.receipts)
    one moved)) c.text_at_workers.ensures.moved
