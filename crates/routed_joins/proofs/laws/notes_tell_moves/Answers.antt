use Rattle.routed_joins.proofs.NoteLemmas.{notes-tell}
use Rattle.routed_joins.proofs.laws.notes_tell_moves.Goals as goal

pub returns : goal.returns
returns g c = notes-tell g.T.Tap.totals g.T.Tap.tag
