use Rattle.exchange_channels.proofs.NumberedLemmas.{numbered-send}
use Rattle.exchange_channels.proofs.laws.a_send_is_a_send.Goals as goal

pub returns : goal.returns
returns c = numbered-send
