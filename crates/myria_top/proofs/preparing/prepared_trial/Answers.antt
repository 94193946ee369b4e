use Rattle.std.proofs.Common.{◌≤◌, ◌∙◌, refl, sym, subst, ap, length, List, ℕ, Some, None}
use Rattle.std.specs.Prelude.{IsTrue}
use Rattle.rel_base.specs.Keys.{File}
use Rattle.algebra.specs.Rewriting.{AreTyped}
use Rattle.myrial_ast.specs.Trees.{trees_of}
use Rattle.myrial_types.specs.Checking.{checked_of}
use Rattle.myrial_types.specs.Fetching.{have_forms}
use Rattle.routed_joins.proofs.TapLemmas.{fair-none}
use Rattle.command_words.specs.Requests.{asked_of}
use Rattle.myria_top.specs.Moves.{HasMoved}
use Rattle.myria_top.specs.Reading.{Agrees, Meets, RefusesBy}
use Rattle.myria_top.specs.Runs.{plain_verdict}
use Rattle.myria_top.specs.Scripts.{TextComesTo}
use Rattle.myria_top.specs.Verdicts.{passes}
use Rattle.myria_top.specs.inner.Working.{text_of}
use Rattle.myria_top.proofs.MoveLemmas.{carried-ok, moved-of_trial}
use Rattle.myria_top.proofs.RunLemmas.{trial_refuses, trial_agrees}
use Rattle.myria_top.proofs.TrialLemmas.{script-short, trial-formed, trial-typed}
use Rattle.myria_top.proofs.preparing.prepared_trial.Goals as goal

pub script_of_text-requires : goal.script_of_text-requires
script_of_text-requires g c =
    subst (λ (bytes : List ℕ). length bytes ≤ 65536) (sym (c.as_bytes.ensures.value ∙ c.trial_is_as_defined.ensures.script)) script-short

pub text_of_run-requires-clause-formed : goal.text_of_run-requires-clause-formed
text_of_run-requires-clause-formed g c κs within =
    let trees = trees_of c.in-Ok.script in
    subst (λ (files : List File). IsTrue (have_forms files trees)) (sym c.in-Ok-trial_files.ensures) (trial-formed trees c.args.request.now.size)

pub text_of_run-requires-clause-typed : goal.text_of_run-requires-clause-typed
text_of_run-requires-clause-typed g c κs within = subst AreTyped (sym c.in-Ok-trial_files.ensures) (trial-typed c.args.request.now.size)

pub returns-in-Err-clause-agrees : goal.returns-in-Err-clause-agrees
returns-in-Err-clause-agrees g c =
    let r = c.args.request.now in
    let same = c.as_bytes.ensures.value ∙ c.trial_is_as_defined.ensures.script in
    λ content. trial_refuses (Some (asked_of r)) content r refl c.requires.trial c.in-Err.refusal
    (subst (λ (bytes : List ℕ). RefusesBy (TextComesTo bytes) c.in-Err.refusal) same c.in-Err.ensures.agrees)

pub returns-clause-agrees : goal.returns-clause-agrees
returns-clause-agrees g c =
    let r = c.args.request.now in
    let trees = trees_of c.in-Ok.script in
    let same = c.as_bytes.ensures.value ∙ c.trial_is_as_defined.ensures.script in
    λ content. trial_agrees (Some (asked_of r)) content r refl c.requires.trial trees (text_of c.text_of_run.result)
    (subst (λ (bytes : List ℕ). Meets (TextComesTo bytes) (passes trees)) same c.in-Ok.ensures.agrees)
    (subst (λ (files : List File). Agrees (plain_verdict r trees files) (text_of c.text_of_run.result)) c.in-Ok-trial_files.ensures
    c.text_of_run.ensures.agrees)

pub returns-clause-moved : goal.returns-clause-moved
returns-clause-moved g c =
    let r = c.args.request.now in
    let trees = trees_of c.in-Ok.script in
    let same = c.as_bytes.ensures.value ∙ c.trial_is_as_defined.ensures.script in
    let read = subst (λ (bytes : List ℕ). Meets (TextComesTo bytes) (passes trees)) same c.in-Ok.ensures.agrees in
    carried-ok c.text_of_run.result
    (λ made moved content.
    moved-of_trial r g.T.Tap.totals g.T.Tap.tag c.args.taps.now.items c.text_of_run.new.taps.items made.receipts content trees c.requires.trial read
    (λ d is. subst (λ (files : List File). HasMoved r None files d g.T.Tap.totals g.T.Tap.tag c.args.taps.now.items c.text_of_run.new.taps.items made.receipts)
    c.in-Ok-trial_files.ensures (moved d (ap (λ (files : List File). checked_of files trees) c.in-Ok-trial_files.ensures ∙ is))))
    c.text_of_run.ensures.moved

pub returns-in-Err-clause-fair : goal.returns-in-Err-clause-fair
returns-in-Err-clause-fair g c = fair-none g.T.Tap.totals g.T.Tap.tag _
