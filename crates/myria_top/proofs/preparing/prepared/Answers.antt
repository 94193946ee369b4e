use Rattle.std.proofs.Common.{arith, ℕ, List, Some}
use Rattle.rel_io.specs.Shelves.{CallCounts, counts_of}
use Rattle.command_words.specs.Requests.{asked_of}
use Rattle.myria_top.specs.Headline.{IsAskedOf}
use Rattle.myria_top.specs.inner.Working.{text_of, NeedsNoCount}
use Rattle.myria_top.proofs.MoveLemmas.{carried-ok}
use Rattle.myria_top.proofs.ScriptLemmas.{text_kind, trial_cause}
use Rattle.myria_top.proofs.preparing.prepared.Goals as goal

pub returns-in-Trial-clause-read : goal.returns-in-Trial-clause-read
returns-in-Trial-clause-read g c =
    let content = g.F.Shelf.content c.args.shelf.now in
    let counts : CallCounts = counts_of g.F.Shelf c.args.shelf.now c.args.shelf.now in
    record {
      agrees = c.prepared_trial.ensures.agrees content;
      cause =
          trial_cause {X = List ℕ} counts (IsAskedOf (Some (asked_of c.args.request.now)) content) (text_of c.prepared_trial.result)
          (text_kind NeedsNoCount c.prepared_trial.result c.prepared_trial.ensures.kind);
      kept = record { faults = omega arith; misses = omega arith };
    }

pub returns-in-Trial-clause-moved : goal.returns-in-Trial-clause-moved
returns-in-Trial-clause-moved g c =
    carried-ok c.prepared_trial.result (λ made moved. moved (g.F.Shelf.content c.args.shelf.now)) c.prepared_trial.ensures.moved
