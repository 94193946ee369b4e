use Rattle.placement.proofs.ReceivedLemmas.{listed_rows_are_grouped}
use Rattle.placement.proofs.receiving.listed_rows_are_grouped.Goals as goal

pub returns : goal.returns
returns c = listed_rows_are_grouped
