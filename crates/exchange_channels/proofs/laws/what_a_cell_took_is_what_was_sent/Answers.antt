use Rattle.exchange_channels.proofs.SendingLemmas.{took_all_sent}
use Rattle.exchange_channels.proofs.laws.what_a_cell_took_is_what_was_sent.Goals as goal

pub returns : goal.returns
returns c = took_all_sent
