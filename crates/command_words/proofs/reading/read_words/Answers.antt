use Rattle.std.proofs.Common.{rules, ◌≡◌, ◌∙◌, map}
use Rattle.std.proofs.lemmas.Result.{IfOk-weaker}
use Rattle.clap.specs.Words.{found_of, rows_of}
use Rattle.command_words.proofs.RequestLemmas.{asked-read}
use Rattle.command_words.proofs.reading.read_words.Goals as goal

pub returns-clause-ok : goal.returns-clause-ok
returns-clause-ok c =
    let texts = map (λ word. word.now) c.as_slice.result.now in
    let same : texts ≡ c.args.words.now = search rules in
    IfOk-weaker c.request_in.result _ _ (λ request h.
    asked-read texts c.args.words.now (rows_of (found_of c.in_ok-matches.matches)) same c.in_ok-matches.ensures.read
    c.in_ok-matches.ensures.rows ∙ h) c.request_in.ensures.ok

pub returns-clause-usage : goal.returns-clause-usage
returns-clause-usage c = λ e.
    let texts = map (λ word. word.now) c.as_slice.result.now in
    let same : texts ≡ c.args.words.now = search rules in
    asked-read texts c.args.words.now (rows_of (found_of c.in_ok-matches.matches)) same c.in_ok-matches.ensures.read
    c.in_ok-matches.ensures.rows ∙ c.request_in.ensures.usage e
