use Rattle.std.proofs.Common.{◌≡◌, ℕ, List, Option, None, Ok, true, false, rules, arith, sym, subst}
use Rattle.std.specs.Prelude.{All, AllPairs}
use Rattle.rel_base.specs.Keys.{File, same_key}
use Rattle.rel_io.specs.Outside.{Content}
use Rattle.rel_io.specs.Shelves.{CallCounts, counts_of}
use Rattle.myrial_ast.specs.Trees.{trees_of}
use Rattle.myrial_meaning.specs.declared.needed_files.Fetch.{Fetch}
use Rattle.myrial_meaning.specs.Fetches.{fetches}
use Rattle.myrial_types.specs.Checking.{checked_of}
use Rattle.fragmenter.specs.Plans.{PlanTree}
use Rattle.command_words.specs.Modes.{is_replay}
use Rattle.myria_top.specs.Moves.{HasMoved}
use Rattle.myria_top.specs.Plans.{asked_plan}
use Rattle.myria_top.specs.Reading.{Agrees}
use Rattle.myria_top.specs.Runs.{IsFetchedBy, IsFileOf, IsReadFor, of_file, of_plan, run_verdict}
use Rattle.myria_top.specs.Verdicts.{passes}
use Rattle.myria_top.specs.inner.Working.{text_of, IsOfRun}
use Rattle.myria_top.proofs.EachFileLemmas.{files_allow, replay_allowed, run_allowed}
use Rattle.myria_top.proofs.FetchLemmas.{fetches-distinct, forms-fetched, types-fetched}
use Rattle.myria_top.proofs.MoveLemmas.{carried-ok, files-one, unplanned-one}
use Rattle.myria_top.proofs.RunLemmas.{files_refuse, run_agrees, unplanned_runs}
use Rattle.myria_top.proofs.ScriptLemmas.{run_cause, text_kind}
use Rattle.myria_top.proofs.VerdictLemmas.{HasCause-part, HasCause-within, within_itself}
use Rattle.myria_top.proofs.preparing.prepared_files.Goals as goal

pub read_files-requires : goal.read_files-requires
read_files-requires g c =
    (search rules, subst (AllPairs (λ (f g' : Fetch). same_key f.key g'.key ≡ false)) (sym c.in-Ok.ensures) (fetches-distinct (trees_of c.args.script.now)))

pub text_of_replay-requires-clause-formed : goal.text_of_replay-requires-clause-formed
text_of_replay-requires-clause-formed g c κs within =
    forms-fetched (trees_of c.args.script.now) c.in-Ok-read_files.files
    (subst (λ (fs : List Fetch). All (IsFetchedBy fs) c.in-Ok-read_files.files) c.in-Ok.ensures c.in-Ok-read_files.ensures.formed)

pub text_of_replay-requires-clause-typed : goal.text_of_replay-requires-clause-typed
text_of_replay-requires-clause-typed g c κs within = types-fetched _ c.in-Ok-read_files.files c.in-Ok-read_files.ensures.formed

pub text_of_run-requires-clause-formed : goal.text_of_run-requires-clause-formed
text_of_run-requires-clause-formed g c κs within =
    forms-fetched (trees_of c.args.script.now) c.in-Ok-read_files.files
    (subst (λ (fs : List Fetch). All (IsFetchedBy fs) c.in-Ok-read_files.files) c.in-Ok.ensures c.in-Ok-read_files.ensures.formed)

pub text_of_run-requires-clause-typed : goal.text_of_run-requires-clause-typed
text_of_run-requires-clause-typed g c κs within = types-fetched _ c.in-Ok-read_files.files c.in-Ok-read_files.ensures.formed

pub returns-in-Err-read_files-clause-read : goal.returns-in-Err-read_files-clause-read
returns-in-Err-read_files-clause-read g c =
    let r = c.args.request.now in
    let trees = trees_of c.args.script.now in
    let read = c.in-Err-read_files.ensures.read in
    record {
      agrees =
          files_refuse r (g.F.Shelf.content c.args.shelf.now) trees c.in-Ok.needed c.in-Err-read_files.refusal c.in-Ok.ensures read.agrees;
      cause =
          HasCause-part _ _ _ (IsReadFor r (fetches trees)) c.in-Err-read_files.refusal (within_itself _ read.kept.faults read.kept.misses)
          (λ name is. of_file (subst (λ (fs : List Fetch). IsFileOf fs name) c.in-Ok.ensures is)) read.cause;
      kept = record { faults = read.kept.faults; misses = read.kept.misses };
    }

pub returns-in-Replay-clause-read : goal.returns-in-Replay-clause-read
returns-in-Replay-clause-read g c =
    let r = c.args.request.now in
    let trees = trees_of c.args.script.now in
    let content = g.F.Shelf.content c.args.shelf.now in
    let files = c.in-Ok-read_files.files in
    let read = c.in-Ok-read_files.ensures.read in
    let replay = c.text_of_replay.ensures.read in
    let text = text_of c.text_of_replay.result in
    let is : is_replay r.mode ≡ true = search rules in
    record {
      agrees =
          run_agrees r content trees c.in-Ok.needed files text c.in-Ok.ensures read.agrees
          (subst (λ (con : List ℕ → Content). Agrees (run_verdict r con trees files) text) c.in-Ok-read_files.ensures.content replay.agrees);
      cause =
          HasCause-within _ _ _ (IsReadFor r (fetches trees)) text (record {
            faults_from = read.kept.faults;
            faults_on = replay.kept.faults;
            faults_to = omega arith;
            misses_from = read.kept.misses;
            misses_on = replay.kept.misses;
            misses_to = omega arith;
          }) (λ name named. of_plan is named) replay.cause;
      kept = record {
        faults = omega (arith, read.kept.faults, replay.kept.faults);
        misses = omega (arith, read.kept.misses, replay.kept.misses);
      };
    }

pub returns-clause-read : goal.returns-clause-read
returns-clause-read g c =
    let r = c.args.request.now in
    let trees = trees_of c.args.script.now in
    let content = g.F.Shelf.content c.args.shelf.now in
    let files = c.in-Ok-read_files.files in
    let read = c.in-Ok-read_files.ensures.read in
    let text = text_of c.text_of_run.result in
    let other : is_replay r.mode ≡ false = search rules in
    let counts : CallCounts = counts_of g.F.Shelf c.args.shelf.now c.read_files.new.shelf in
    record {
      agrees =
          run_agrees r content trees c.in-Ok.needed files text c.in-Ok.ensures read.agrees
          (subst (λ v. Agrees v text) (sym (unplanned_runs r trees files content other)) c.text_of_run.ensures.agrees);
      cause =
          run_cause {X = List ℕ} counts (IsReadFor r (fetches trees)) text
          (text_kind IsOfRun c.text_of_run.result c.text_of_run.ensures.kind);
      kept = read.kept;
    }

pub returns-in-Err-read_files-clause-each : goal.returns-in-Err-read_files-clause-each
returns-in-Err-read_files-clause-each g c name read =
    files_allow (g.F.Shelf.content c.args.shelf.now) name (trees_of c.args.script.now) read c.in-Ok.needed c.in-Ok.ensures
    c.in-Err-read_files.refusal c.in-Err-read_files.ensures.bad

pub returns-in-Replay-clause-each : goal.returns-in-Replay-clause-each
returns-in-Replay-clause-each g c name read =
    replay_allowed (g.F.Shelf.content c.args.shelf.now) name (trees_of c.args.script.now) read c.in-Ok.needed c.in-Ok.ensures
    c.in-Ok-read_files.ensures.good c.text_of_replay.result c.text_of_replay.ensures.kind

pub returns-clause-each : goal.returns-clause-each
returns-clause-each g c name read =
    run_allowed (g.F.Shelf.content c.args.shelf.now) name (trees_of c.args.script.now) read c.in-Ok.needed c.in-Ok.ensures
    c.in-Ok-read_files.ensures.good c.text_of_run.result c.text_of_run.ensures.kind

pub returns-in-Replay-clause-moved : goal.returns-in-Replay-clause-moved
returns-in-Replay-clause-moved g c =
    let r = c.args.request.now in
    let trees = trees_of c.args.script.now in
    let content = g.F.Shelf.content c.args.shelf.now in
    carried-ok c.text_of_replay.result
    (λ made moved others d plan is typed by_plan.
    subst (λ (fs : List File). checked_of fs trees ≡ Ok d
    → HasMoved r plan fs d g.T.Tap.totals g.T.Tap.tag c.args.taps.now.items c.text_of_replay.new.taps.items made.receipts)
    (files-one content c.in-Ok.needed (fetches trees) c.in-Ok-read_files.files others c.in-Ok.ensures c.in-Ok-read_files.ensures.read.agrees is)
    (λ own. moved d plan own
    (subst (λ (con : List ℕ → Content). asked_plan r con d ≡ passes plan) (sym c.in-Ok-read_files.ensures.content) by_plan)) typed)
    c.text_of_replay.ensures.moved

pub returns-clause-moved : goal.returns-clause-moved
returns-clause-moved g c =
    let r = c.args.request.now in
    let trees = trees_of c.args.script.now in
    let content = g.F.Shelf.content c.args.shelf.now in
    let other : is_replay r.mode ≡ false = search rules in
    carried-ok c.text_of_run.result
    (λ made moved others d plan is typed by_plan.
    subst (λ (p : Option PlanTree). HasMoved r p others d g.T.Tap.totals g.T.Tap.tag c.args.taps.now.items c.text_of_run.new.taps.items made.receipts)
    (unplanned-one r content d plan other by_plan)
    (subst (λ (fs : List File). checked_of fs trees ≡ Ok d
    → HasMoved r None fs d g.T.Tap.totals g.T.Tap.tag c.args.taps.now.items c.text_of_run.new.taps.items made.receipts)
    (files-one content c.in-Ok.needed (fetches trees) c.in-Ok-read_files.files others c.in-Ok.ensures c.in-Ok-read_files.ensures.read.agrees is)
    (moved d) typed)) c.text_of_run.ensures.moved
