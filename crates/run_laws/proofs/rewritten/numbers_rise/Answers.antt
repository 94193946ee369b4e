use Rattle.run_laws.proofs.RewrittenLemmas.{numbers_rise}
use Rattle.run_laws.proofs.rewritten.numbers_rise.Goals as goal

pub returns : goal.returns
returns c = numbers_rise
