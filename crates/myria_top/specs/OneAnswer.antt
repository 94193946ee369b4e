-- What words and files come to is one verdict.
--
--   ComesToOne             what is asked for and the files come to one verdict alone
--   PrintsWhatItComesTo    a run that keeps the headline and is done printed the text that they come to
use Rattle.std.specs.Prelude.{◌≡◌, ℕ, List, Option}
use Rattle.exchange_channels.specs.Wirings.{ReceiptState}
use Rattle.rel_io.specs.Outside.{Content}
use Rattle.rel_io.specs.Sinks.{TookAll, Written}
use Rattle.command_words.specs.Requests.{Asked}
use Rattle.myria_top.specs.declared.outcomes.Outcome.TheVariants as outcome
use Rattle.myria_top.specs.Headline.{Run, Headline}
use Rattle.myria_top.specs.Runs.{ComesTo}
use Rattle.myria_top.specs.Verdicts.{Verdict, passes}

-- what is asked for and the files come to one verdict
abbrev pub ComesToOne : Type 0
ComesToOne =
    (asked : Option Asked) (content : List ℕ → Content) (s t : Verdict (List ℕ))
    → ComesTo asked content s → ComesTo asked content t → s ≡ t

-- so a text that they come to is the one that a run printed which is done
abbrev pub PrintsWhatItComesTo : Type 0
PrintsWhatItComesTo =
    (run : Run) (err : Written) (receipts : List ReceiptState) (text : List ℕ)
    → Headline run err (outcome.Done receipts) → ComesTo run.asked run.content (passes text)
    → TookAll run.out text
