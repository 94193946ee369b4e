use Rattle.exchange_channels.proofs.SendingLemmas.{drained_rows-drained_of}
use Rattle.exchange_channels.proofs.laws.drained_rows_are_those_of_the_batches.Goals as goal

pub returns : goal.returns
returns c = drained_rows-drained_of
