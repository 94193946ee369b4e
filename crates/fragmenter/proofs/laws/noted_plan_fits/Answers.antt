use Rattle.fragmenter.proofs.NotedLemmas.{noted_plan_fits}
use Rattle.fragmenter.proofs.laws.noted_plan_fits.Goals as goal

pub returns : goal.returns
returns c = noted_plan_fits
