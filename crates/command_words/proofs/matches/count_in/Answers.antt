use Rattle.std.proofs.Common.{rules, ◌≡◌, ◌∙◌, sym, Some, None}
use Rattle.clap.specs.Words.{found_of, first_value}
use Rattle.command_words.specs.Texts.{number_within}
use Rattle.command_words.proofs.MatchLemmas.{behind, given-none, given-some}
use Rattle.command_words.proofs.matches.count_in.Goals as goal

pub returns-in_err-number-in-Some-clause-value : goal.returns-in_err-number-in-Some-clause-value
returns-in_err-number-in-Some-clause-value c =
    let got : behind c.get_str.result ≡ first_value (found_of c.args.matches.now) c.args.name.now = search rules in
    let none : number_within 1 c.args.most c.in-Some.text.now ≡ None = search rules in
    let left : c.from_residual.result ≡ None = search rules in
    left ∙ sym (given-some (found_of c.args.matches.now) c.args.name.now c.args.usual (number_within 1 c.args.most) c.get_str.result
    c.in-Some.text got (search rules) ∙ none)

pub returns-in_ok-number-in-Some-clause-value : goal.returns-in_ok-number-in-Some-clause-value
returns-in_ok-number-in-Some-clause-value c =
    let got : behind c.get_str.result ≡ first_value (found_of c.args.matches.now) c.args.name.now = search rules in
    let some : number_within 1 c.args.most c.in-Some.text.now ≡ Some c.in_ok-number-in-Some.number = search rules in
    sym (given-some (found_of c.args.matches.now) c.args.name.now c.args.usual (number_within 1 c.args.most) c.get_str.result
    c.in-Some.text got (search rules) ∙ some)

pub returns-in-None-clause-value : goal.returns-in-None-clause-value
returns-in-None-clause-value c =
    let got : behind c.get_str.result ≡ first_value (found_of c.args.matches.now) c.args.name.now = search rules in
    sym (given-none (found_of c.args.matches.now) c.args.name.now c.args.usual (number_within 1 c.args.most) c.get_str.result
    got (search rules))
