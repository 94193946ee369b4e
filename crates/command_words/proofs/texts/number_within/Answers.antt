use Rattle.std.proofs.Common.{rules}
use Rattle.command_words.proofs.NumberLemmas.{number-parsed}
use Rattle.command_words.proofs.texts.number_within.Goals as goal

pub returns-in_default : goal.returns-in_default
returns-in_default c =
    let parsed = number-parsed c.args.least c.args.most c.args.text.now c.parse.result c.parse.ensures.value.0 (search rules) (search rules) in
    search (rules, parsed)
