use Rattle.exchange_channels.proofs.Moves.{sends}
use Rattle.std.proofs.Common.{rules}
use Rattle.exchange_channels.proofs.ports.send_until_sent.Goals as goal

pub send_as-requires-clause-rule : goal.send_as-requires-clause-rule
send_as-requires-clause-rule g c = (sends _ _ _ _ (search rules) (search rules) (search rules) (search rules), search rules)
