use Rattle.std.proofs.Common.{◌≡◌, ◌∙◌, refl, sym, subst, arith, List, [], ◌∷◌, ◌++◌, ℕ, suc, take, drop}
use Rattle.myria_top.specs.FileNames.{file_name_of}
use Rattle.rel_io.specs.Outside.{Content}
use Rattle.std.specs.Prelude.{Contains}
use Rattle.myrial_meaning.specs.declared.needed_files.Fetch.{Fetch}
use Rattle.myria_top.specs.Reading.{AgreesRefused}
use Rattle.myria_top.specs.Runs.{files_verdict, relation_verdict, IsFileOf}
use Rattle.myria_top.specs.inner.Working.{HasFirstBad}
use Rattle.myria_top.proofs.EachFileLemmas.{one_bad, one_more_good}
use Rattle.myria_top.proofs.FetchLemmas.{new_key, one_more_fetched, one_more_key, one_more_read, split_at}
use Rattle.myria_top.proofs.VerdictLemmas.{files_refused, HasCause-part}
use Rattle.myria_top.proofs.reading.read_files.Goals as goal

pub returns-in-Err-clause-read : goal.returns-in-Err-clause-read
returns-in-Err-clause-read g c =
    let content = g.F.Shelf.content c.args.shelf.now in
    let fetches = c.as_slice-fetch-items.result.now in
    let fetch = c.fetch-item.result in
    let i = c.loop-fetch.fetch-index in
    let kept = c.loop-fetch.invariant in
    let read = c.in-Err.ensures.read in
    let split = split_at fetches i fetch c.loop-fetch-test.true c.fetch-item.is in
    let refuses : AgreesRefused (relation_verdict fetch (content (file_name_of fetch.key))) c.in-Err.refusal =
    subst (λ (con : List ℕ → Content). AgreesRefused (relation_verdict fetch (con (file_name_of fetch.key))) c.in-Err.refusal) kept.content read.agrees in
    let all = files_refused content (take i fetches) fetch (drop (suc i) fetches) c.loop-fetch.files c.in-Err.refusal kept.read refuses in
    record {
      agrees = subst (λ fs. AgreesRefused (files_verdict content fs) c.in-Err.refusal) (sym split ∙ c.as_slice-fetch-items.ensures.value) all;
      cause =
          HasCause-part _ _ _ (IsFileOf c.args.fetches.now) c.in-Err.refusal
          (record {
            faults_from = kept.faults;
            faults_on = read.kept.faults;
            faults_to = omega arith;
            misses_from = kept.misses;
            misses_on = read.kept.misses;
            misses_to = omega arith;
          })
          (λ name asked. record {
            fetch = fetch;
            is_one =
                subst (λ fs. Contains fs fetch) c.as_slice-fetch-items.ensures.value
                (i, c.loop-fetch-test.true, sym c.fetch-item.is);
            is_named = asked;
          }) read.cause;
      kept = record { faults = omega (arith, kept.faults, read.kept.faults); misses = omega (arith, kept.misses, read.kept.misses) };
    }

pub returns-in-Err-clause-bad : goal.returns-in-Err-clause-bad
returns-in-Err-clause-bad g c =
    let content = g.F.Shelf.content c.args.shelf.now in
    let kept = c.loop-fetch.invariant in
    subst (λ (fs : List Fetch). HasFirstBad content fs c.in-Err.refusal) c.as_slice-fetch-items.ensures.value
    (one_bad content c.as_slice-fetch-items.result.now c.loop-fetch.fetch-index c.fetch-item.result c.loop-fetch-test.true c.fetch-item.is
    kept.good (g.F.Shelf.content c.loop-fetch.shelf) c.in-Err.refusal kept.content c.in-Err.ensures.kind c.in-Err.ensures.read.agrees)

pub add_file-requires-clause-new_key : goal.add_file-requires-clause-new_key
add_file-requires-clause-new_key g c =
    new_key c.as_slice-fetch-items.result.now c.loop-fetch.fetch-index c.fetch-item.result c.loop-fetch.files
    (rw c.as_slice-fetch-items.ensures.value c.requires) c.loop-fetch-test.true c.fetch-item.is c.loop-fetch.invariant.keys

pub loop-fetch-preserved : goal.loop-fetch-preserved
loop-fetch-preserved g c =
    let content = g.F.Shelf.content c.args.shelf.now in
    let fetches = c.as_slice-fetch-items.result.now in
    let fetch = c.fetch-item.result in
    let i = c.loop-fetch.fetch-index in
    let kept = c.loop-fetch.invariant in
    let read = c.in-Ok.ensures.read in
    let relation = c.in-Ok.relation in
    let grown : c.add_file.new.files ≡ c.loop-fetch.files ++ (fetch.key, relation) ∷ [] = rw c.in_default.is at c.add_file.ensures in
    record {
      read =
          one_more_read content _ fetches i fetch c.loop-fetch.files c.add_file.new.files relation c.loop-fetch-test.true c.fetch-item.is
          kept.content kept.read read.agrees grown;
      keys = one_more_key fetches i fetch c.loop-fetch.files c.add_file.new.files relation c.loop-fetch-test.true c.fetch-item.is kept.keys grown;
      good =
          one_more_good content fetches i fetch c.loop-fetch-test.true c.fetch-item.is kept.good (g.F.Shelf.content c.loop-fetch.shelf) relation
          kept.content read.agrees;
      formed =
          one_more_fetched fetches c.loop-fetch.files c.add_file.new.files (fetch.key, relation) kept.formed
          (record {
            fetch = fetch;
            is_one = (i, c.loop-fetch-test.true, sym c.fetch-item.is);
            key = refl;
            formed = c.in-Ok.ensures.formed;
            typed = c.in-Ok.ensures.typed;
          }) grown;
      content = c.in-Ok.ensures.content ∙ kept.content;
      faults = omega (arith, kept.faults, read.kept.faults);
      misses = omega (arith, kept.misses, read.kept.misses);
    }
