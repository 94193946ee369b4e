use Rattle.std.proofs.Common.{rules, ◌≡◌, ◌∙◌, sym, codes}
use Rattle.clap.specs.Words.{found_of, first_value}
use Rattle.command_words.proofs.MatchLemmas.{behind, given-none, given-some}
use Rattle.command_words.specs.declared.requests.Mode.TheVariants.{Run}
use Rattle.command_words.specs.Texts.{mode_of}
use Rattle.command_words.proofs.matches.mode_in.Goals as goal

pub returns-in-Some : goal.returns-in-Some
returns-in-Some c =
    let got : behind c.get_str.result ≡ first_value (found_of c.args.matches.now) (codes "mode") = search rules in
    c.mode_of.ensures ∙ sym (given-some (found_of c.args.matches.now) (codes "mode") Run mode_of c.get_str.result c.in-Some.text got (search rules))

pub returns-in-None : goal.returns-in-None
returns-in-None c =
    let got : behind c.get_str.result ≡ first_value (found_of c.args.matches.now) (codes "mode") = search rules in
    sym (given-none (found_of c.args.matches.now) (codes "mode") Run mode_of c.get_str.result got (search rules))
