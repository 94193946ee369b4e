use Rattle.placement.proofs.MoveLemmas.{rows_are_given_once}
use Rattle.placement.proofs.receiving.rows_are_given_once.Goals as goal

pub returns : goal.returns
returns c = rows_are_given_once
