use Rattle.exchange_channels.proofs.NumberedLemmas.{numbered-take}
use Rattle.exchange_channels.proofs.laws.a_take_is_a_take.Goals as goal

pub returns : goal.returns
returns c = numbered-take
