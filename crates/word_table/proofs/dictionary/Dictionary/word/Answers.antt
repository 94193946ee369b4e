use Rattle.word_table.proofs.WordLemmas.{word_of_string}
use Rattle.word_table.proofs.dictionary.Dictionary.word.Goals as goal

pub returns-in-Str-clause-word : goal.returns-in-Str-clause-word
returns-in-Str-clause-word c =
    rw (← c.self.view_is, c.in-Str.is) (word_of_string c.self.inside.texts c.in-Str.text c.rank.result (rw (← c.as_str.ensures) c.rank.ensures))
