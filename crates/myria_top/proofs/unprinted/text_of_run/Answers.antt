use Rattle.std.proofs.Common.{◌≡◌, ◌∙◌, List, ℕ, None, subst, sym}
use Rattle.algebra.specs.CheckedTrees.{checked_tree_of}
use Rattle.algebra.specs.Trees.{CheckedTree}
use Rattle.myrial_ast.specs.Trees.{trees_of}
use Rattle.myria_top.specs.Moves.{HasMoved}
use Rattle.myria_top.specs.Reading.{Agrees}
use Rattle.myria_top.specs.Runs.{plain_verdict, typed_verdict}
use Rattle.myria_top.specs.Verdicts.{Verdict}
use Rattle.myria_top.specs.inner.Working.{checked_verdict, evaluated_verdict, text_of}
use Rattle.myria_top.proofs.CheckedLemmas.{checked_is_typed, evaluated_is_typed}
use Rattle.myria_top.proofs.MoveLemmas.{carried-ok, checked-one, nothing-moved}
use Rattle.myria_top.proofs.RunLemmas.{typed_runs, typing_refuses}
use Rattle.myria_top.proofs.unprinted.text_of_run.Goals as goal

pub text_of_evaluation-requires : goal.text_of_evaluation-requires
text_of_evaluation-requires g c =
    c.typed_scripts_have_meaning.ensures c.args.files (trees_of c.args.script.now) _ c.requires.formed c.in-Ok.ensures.checked

pub text_at_workers-requires-clause-of : goal.text_at_workers-requires-clause-of
text_at_workers-requires-clause-of g c κs within =
    c.steps_are_of_the_files.ensures c.args.files (trees_of c.args.script.now) _ c.requires.formed c.in-Ok.ensures.checked

pub returns-in-Check-clause-agrees : goal.returns-in-Check-clause-agrees
returns-in-Check-clause-agrees g c =
    let r = c.args.request.now in
    let files = c.args.files in
    let script = trees_of c.args.script.now in
    let checked = checked_tree_of c.in-Ok.checked in
    let same : evaluated_verdict script files ≡ plain_verdict r script files =
    evaluated_is_typed script files r checked c.in-Check.is ∙ sym (typed_runs r script files checked c.in-Ok.ensures.checked) in
    subst (λ (v : Verdict (List ℕ)). Agrees v (text_of c.text_of_evaluation.result)) same c.text_of_evaluation.ensures.agrees

pub returns-in-Check-clause-moved : goal.returns-in-Check-clause-moved
returns-in-Check-clause-moved g c =
    carried-ok c.text_of_evaluation.result
    (λ made none d is. nothing-moved c.args.request.now None c.args.files d g.T.Tap.totals g.T.Tap.tag c.args.taps.now.items made.receipts
    (cc) none) c.text_of_evaluation.ensures.moved

pub returns-clause-agrees : goal.returns-clause-agrees
returns-clause-agrees g c =
    let r = c.args.request.now in
    let files = c.args.files in
    let script = trees_of c.args.script.now in
    let checked = checked_tree_of c.in-Ok.checked in
    let same : checked_verdict r None files checked ≡ plain_verdict r script files =
    checked_is_typed r None files checked c.steps_have_the_fault.ensures c.steps_mean_the_script.ensures script c.requires.formed c.in-Ok.ensures.checked
    ∙ sym (typed_runs r script files checked c.in-Ok.ensures.checked) in
    subst (λ (v : Verdict (List ℕ)). Agrees v (text_of c.text_at_workers.result)) same c.text_at_workers.ensures.agrees

pub returns-clause-moved : goal.returns-clause-moved
returns-clause-moved g c =
    let files = c.args.files in
    carried-ok c.text_at_workers.result
    (λ made moved other is.
    subst (λ (d : CheckedTree). HasMoved c.args.request.now None files d g.T.Tap.totals g.T.Tap.tag c.args.taps.now.items
    c.text_at_workers.new.taps.items made.receipts)
    (checked-one files (trees_of c.args.script.now) (checked_tree_of c.in-Ok.checked) other c.in-Ok.ensures.checked is) moved)
    c.text_at_workers.ensures.moved

pub returns-in-Err-clause-agrees : goal.returns-in-Err-clause-agrees
returns-in-Err-clause-agrees g c =
    typing_refuses c.args.request.now (trees_of c.args.script.now) c.args.files
    (λ d. typed_verdict c.args.request.now (trees_of c.args.script.now) c.args.files d None) c.in-Err.fault c.from.result c.from.ensures c.in-Err.ensures.fault
