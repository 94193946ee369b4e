use Rattle.std.proofs.Common.{rules, ◌≡◌, codes}
use Rattle.clap.specs.Words.{found_of, first_value}
use Rattle.command_words.proofs.MatchLemmas.{behind, text-given}
use Rattle.command_words.proofs.matches.plan_name_in.Goals as goal

pub returns : goal.returns
returns c =
    let got : behind c.get_str.result ≡ first_value (found_of c.args.matches.now) (codes "from") = search rules in
    text-given (found_of c.args.matches.now) (codes "from") c.get_str.result got
