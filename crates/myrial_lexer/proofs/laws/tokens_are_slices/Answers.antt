use Rattle.myrial_lexer.proofs.SliceLemmas.{AreTokensOf-IsCut}
use Rattle.myrial_lexer.proofs.laws.tokens_are_slices.Goals as goal

pub returns : goal.returns
returns c = AreTokensOf-IsCut c.args.text.now c.args.tokens.now c.requires
