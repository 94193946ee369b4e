use Rattle.routed_joins.proofs.TapLemmas.{kept-fair}
use Rattle.routed_joins.proofs.laws.fairness_is_kept.Goals as goal

pub returns : goal.returns
returns g c = kept-fair g.T.Tap.totals g.T.Tap.tag
