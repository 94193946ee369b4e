use Rattle.routed_joins.proofs.TapLemmas.{joined-moves}
use Rattle.routed_joins.proofs.laws.moves_are_joined.Goals as goal

pub returns : goal.returns
returns g c = joined-moves g.T.Tap.totals g.T.Tap.tag
