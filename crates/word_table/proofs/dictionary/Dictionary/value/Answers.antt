use Rattle.std.proofs.Common.{subst}
use Rattle.word_table.specs.Words.{IsWordOf}
use Rattle.word_table.proofs.dictionary.Dictionary.value.Goals as goal

pub lend-requires : goal.lend-requires
lend-requires c = (c.requires.0, subst (λ kind. IsWordOf c.args.self.now c.requires.0 kind c.args.word) c.in-Str.is c.requires.1)
