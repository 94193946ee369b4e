use Rattle.std.proofs.Common.{rules, ◌≡◌, ◌∙◌, sym, codes}
use Rattle.std.specs.Str.{bytes_eq}
use Rattle.clap.specs.Words.{found_of, first_value}
use Rattle.command_words.proofs.MatchLemmas.{behind, test-none, test-some}
use Rattle.command_words.proofs.matches.is_flag_in.Goals as goal

pub returns-in-Some : goal.returns-in-Some
returns-in-Some c =
    let got : behind c.get_str.result ≡ first_value (found_of c.args.matches.now) c.args.name.now = search rules in
    let same : c.eq.result ≡ bytes_eq c.in-Some.text.now (codes "true") = search rules in
    same ∙ sym (test-some (found_of c.args.matches.now) c.args.name.now (λ text. bytes_eq text (codes "true")) c.get_str.result c.in-Some.text got (search rules))

pub returns-in-None : goal.returns-in-None
returns-in-None c =
    let got : behind c.get_str.result ≡ first_value (found_of c.args.matches.now) c.args.name.now = search rules in
    sym (test-none (found_of c.args.matches.now) c.args.name.now (λ text. bytes_eq text (codes "true")) c.get_str.result got (search rules))
