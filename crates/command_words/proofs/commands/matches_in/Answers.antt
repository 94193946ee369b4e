use Rattle.std.proofs.Common.{map}
use Rattle.clap.specs.Words.{app_of}
use Rattle.command_words.specs.declared.requests.WordsFault.TheVariants as fault
use Rattle.command_words.proofs.CommandLemmas.{read-at-ok, refused-at-err, rows-at-ok}
use Rattle.command_words.proofs.RequestLemmas.{same-fault}
use Rattle.command_words.proofs.commands.matches_in.Goals as goal

pub returns-in-Ok-clause-read : goal.returns-in-Ok-clause-read
returns-in-Ok-clause-read c =
    read-at-ok (app_of c.in_ok-command.command) (map (λ word. word.now) c.args.words.now) c.in-Ok.matches c.in_ok-command.ensures
    c.in-Ok.ensures.kinds

pub returns-in-Ok-clause-rows : goal.returns-in-Ok-clause-rows
returns-in-Ok-clause-rows c =
    rows-at-ok (app_of c.in_ok-command.command) (map (λ word. word.now) c.args.words.now) c.in-Ok.matches c.in_ok-command.ensures
    c.in-Ok.ensures.matches

pub returns-in-Err-clause-usage : goal.returns-in-Err-clause-usage
returns-in-Err-clause-usage c = λ e.
    refused-at-err (app_of c.in_ok-command.command) (map (λ word. word.now) c.args.words.now) c.in-Err.error c.in_ok-command.ensures
    c.in-Err.ensures.kinds (c.fault_of.ensures (same-fault c.fault_of.result fault.Usage e))
