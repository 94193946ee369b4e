use Rattle.std.proofs.Common.{◌≡◌, take}
use Rattle.std.specs.List.{fold}
use Rattle.clap.specs.Words.{app_of}
use Rattle.command_words.specs.Commands.{with_flag}
use Rattle.command_words.proofs.commands.with_flags.Given as goal

abbrev pub invariant-loop-name : goal.invariant-loop-name
invariant-loop-name l =
    app_of l.command ≡ fold (λ app name. with_flag name.now app) (app_of l.initial.command) (take l.name-index l.names)
