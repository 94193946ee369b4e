use Rattle.placement.proofs.RuleLemmas.{ruled_is_placing}
use Rattle.placement.proofs.layouts.ruled_is_placing.Goals as goal

pub returns : goal.returns
returns c = ruled_is_placing
