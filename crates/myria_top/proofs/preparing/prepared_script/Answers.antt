use Rattle.std.proofs.Common.{refl, sym, subst, arith, Some}
use Rattle.myrial_ast.specs.Trees.{trees_of}
use Rattle.routed_joins.proofs.TapLemmas.{fair-none}
use Rattle.command_words.specs.Requests.{asked_of}
use Rattle.myria_top.specs.Headline.{IsAskedOf, the_script}
use Rattle.myria_top.specs.inner.Working.{text_of}
use Rattle.myria_top.proofs.EachFileLemmas.{allowed_on, script_allows}
use Rattle.myria_top.proofs.MoveLemmas.{carried-ok, moved-of_script}
use Rattle.myria_top.proofs.RequestLemmas.{script-named}
use Rattle.myria_top.proofs.RunLemmas.{script_refuses, reads_on}
use Rattle.myria_top.proofs.VerdictLemmas.{HasCause-part, within_itself}
use Rattle.myria_top.proofs.preparing.prepared_script.Goals as goal

pub returns-in-Err-clause-read : goal.returns-in-Err-clause-read
returns-in-Err-clause-read g c =
    let r = c.args.request.now in
    let asked = Some (asked_of r) in
    let content = g.F.Shelf.content c.args.shelf.now in
    let read = c.in-Err.ensures.read in
    record {
      agrees = script_refuses asked content r refl c.requires.script c.in-Err.refusal read.agrees;
      cause =
          HasCause-part _ _ _ (IsAskedOf asked content) c.in-Err.refusal (within_itself _ read.kept.faults read.kept.misses)
          (λ file is. subst (IsAskedOf asked content) (sym is) (the_script r.script (script-named asked r refl c.requires.script))) read.cause;
      kept = record { faults = read.kept.faults; misses = read.kept.misses };
    }

pub returns-clause-read : goal.returns-clause-read
returns-clause-read g c =
    let r = c.args.request.now in
    let content = g.F.Shelf.content c.args.shelf.now in
    let read = c.in-Ok.ensures.read in
    let run = c.prepared_files.ensures.read in
    reads_on (Some (asked_of r)) content r refl c.requires.script (trees_of c.in-Ok.script) (g.F.Shelf.content c.read_script.new.shelf) _ _
    (text_of c.prepared_files.result) read.agrees c.in-Ok.ensures.content
    (record {
      faults_from = read.kept.faults;
      faults_on = run.kept.faults;
      faults_to = omega arith;
      misses_from = read.kept.misses;
      misses_on = run.kept.misses;
      misses_to = omega arith;
    })
    run

pub returns-in-Err-clause-each : goal.returns-in-Err-clause-each
returns-in-Err-clause-each g c =
    script_allows (g.F.Shelf.content c.args.shelf.now) c.args.request.now.script c.in-Err.refusal c.in-Err.ensures.kind c.in-Err.ensures.read.agrees

pub returns-clause-each : goal.returns-clause-each
returns-clause-each g c =
    allowed_on (g.F.Shelf.content c.read_script.new.shelf) (g.F.Shelf.content c.args.shelf.now) c.args.request.now.script (trees_of c.in-Ok.script)
    c.prepared_files.result c.in-Ok.ensures.content c.in-Ok.ensures.read.agrees c.prepared_files.ensures.each

pub returns-in-Err-clause-fair : goal.returns-in-Err-clause-fair
returns-in-Err-clause-fair g c = fair-none g.T.Tap.totals g.T.Tap.tag _

pub returns-clause-moved : goal.returns-clause-moved
returns-clause-moved g c =
    let content = g.F.Shelf.content c.args.shelf.now in
    carried-ok c.prepared_files.result
    (λ made. moved-of_script c.args.request.now g.T.Tap.totals g.T.Tap.tag c.args.taps.now.items c.prepared_files.new.taps.items made.receipts
    content (trees_of c.in-Ok.script) (g.F.Shelf.content c.read_script.new.shelf) c.requires.script c.in-Ok.ensures.content
    c.in-Ok.ensures.read.agrees) c.prepared_files.ensures.moved
