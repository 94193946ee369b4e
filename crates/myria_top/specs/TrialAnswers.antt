-- What a trial may answer.
--
--   IsOfTrial answer       a trial may answer so
--   TrialsAreOfTheirRun    a run that is asked for a trial, and keeps the headline, answers so
use Rattle.std.specs.Prelude.{◌≡◌, true, ⊤}
use Rattle.rel_io.specs.Sinks.{Written}
use Rattle.command_words.specs.declared.requests.Request.{Request}
use Rattle.myria_top.specs.declared.outcomes.Outcome.{Outcome}
use Rattle.myria_top.specs.declared.outcomes.Outcome.TheVariants as outcome
use Rattle.myria_top.specs.Requests.{Asks, is_trial}
use Rattle.myria_top.specs.Headline.{Run, Headline}

-- it is done, its run has a fault, or the output or memory fails: its script has no fault, and no
-- file is asked for
abbrev pub IsOfTrial : Outcome → Type 0
IsOfTrial (outcome.Done receipts) = ⊤
IsOfTrial (outcome.TooManyRows statement) = ⊤
IsOfTrial (outcome.Overflow statement) = ⊤
IsOfTrial (outcome.AggregateOverflow statement) = ⊤
IsOfTrial outcome.WriteFault = ⊤
IsOfTrial outcome.Memory = ⊤
IsOfTrial _ = ⊥

-- a run that is asked for a trial, and keeps the headline, answers so
abbrev pub TrialsAreOfTheirRun : Type 0
TrialsAreOfTheirRun =
    (run : Run) (err : Written) (answer : Outcome) (r : Request)
    → Headline run err answer → Asks run.asked r → is_trial r.mode ≡ true → IsOfTrial answer
