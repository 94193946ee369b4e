use Rattle.run_laws.proofs.RewrittenLemmas.{rewritten_are_kept}
use Rattle.run_laws.proofs.rewritten.rewritten_are_kept.Goals as goal

pub returns : goal.returns
returns c = rewritten_are_kept
