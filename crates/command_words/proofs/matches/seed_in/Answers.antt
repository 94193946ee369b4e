use Rattle.std.proofs.Common.{rules, ◌≡◌, ◌∙◌, sym, codes}
use Rattle.clap.specs.Words.{found_of, first_value}
use Rattle.command_words.proofs.MatchLemmas.{behind, given-none, given-some}
use Rattle.command_words.specs.Limits.{most_seed}
use Rattle.command_words.specs.Texts.{number_within}
use Rattle.command_words.proofs.matches.seed_in.Goals as goal

pub returns-in-Some : goal.returns-in-Some
returns-in-Some c =
    let got : behind c.get_str.result ≡ first_value (found_of c.args.matches.now) (codes "seed") = search rules in
    c.number_within.ensures ∙ sym (given-some (found_of c.args.matches.now) (codes "seed") 0 (number_within 0 most_seed) c.get_str.result c.in-Some.text got (search rules))

pub returns-in-None : goal.returns-in-None
returns-in-None c =
    let got : behind c.get_str.result ≡ first_value (found_of c.args.matches.now) (codes "seed") = search rules in
    sym (given-none (found_of c.args.matches.now) (codes "seed") 0 (number_within 0 most_seed) c.get_str.result got (search rules))
