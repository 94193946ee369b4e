use Rattle.std.proofs.Common.{◌∙◌, ℕ, List, sym}
use Rattle.std.specs.Borrow.{Bor}
use Rattle.std.proofs.lemmas.List.Sums.{fold_more}
use Rattle.clap.specs.Words.{App, app_of}
use Rattle.command_words.specs.Commands.{with_option}
use Rattle.command_words.proofs.CommandLemmas.{added}
use Rattle.command_words.proofs.commands.with_options.Goals as goal

pub loop-name-preserved : goal.loop-name-preserved
loop-name-preserved c =
    added c.loop-name.command c.in_ok-command.command c.option.result _ _ c.in_ok-command.ensures c.option.ensures.local c.loop-name.invariant c.option.ensures.rule
    ∙ sym (fold_more (λ (app : App) (name : Bor (List ℕ)). with_option name.now app) (app_of c.args.command) c.args.names.now c.loop-name.name-index _ c.loop-name-test.true)
