use Rattle.routed_joins.proofs.TapLemmas.{moved-told}
use Rattle.routed_joins.proofs.laws.told_is_moved.Goals as goal

pub returns : goal.returns
returns g c = moved-told g.T.Tap.totals g.T.Tap.tag
