use Rattle.exchange_channels.proofs.NumberedLemmas.{numbered-is_inbox}
use Rattle.exchange_channels.proofs.laws.numbered_inbox_is_an_inbox.Goals as goal

pub returns : goal.returns
returns c = numbered-is_inbox
