use Rattle.std.proofs.Common.{◌∙◌, ap, codes}
use Rattle.std.proofs.lemmas.Result.{IfOk-weaker}
use Rattle.clap.specs.Words.{App}
use Rattle.command_words.specs.Commands.{command, with_flag, with_option}
use Rattle.command_words.proofs.CommandLemmas.{added}
use Rattle.command_words.proofs.commands.command.Goals as goal

pub returns : goal.returns
unfolding command
returns c =
    let sized : App → App = λ app. with_option (codes "batch") (with_option (codes "capacity") (with_option (codes "workers") (with_option (codes "mode") app))) in
    let joined : App → App = λ app. with_option (codes "join") (with_option (codes "shuffle") (with_option (codes "seed") (sized app))) in
    let printed : App → App = λ app. with_flag (codes "reduce") (with_flag (codes "traffic") (with_flag (codes "plan") app)) in
    let named : App → App = λ app. with_option (codes "from") (with_option (codes "size") app) in
    let run = c.in_ok-run.ensures ∙ ap joined c.new.ensures.app in
    let from = c.in_ok-named.ensures ∙ ap named (c.in_ok-printed.ensures ∙ ap printed run) in
    IfOk-weaker c.arg.result _ _ (λ made h. added c.in_ok-named.named made c.word.result _ _ h c.word.ensures.local from c.word.ensures.rule) c.arg.ensures
