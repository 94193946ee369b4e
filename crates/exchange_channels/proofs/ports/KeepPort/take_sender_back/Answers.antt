use Rattle.exchange_channels.proofs.Moves.{sender_returns}
use Rattle.std.proofs.Common.{rules}
use Rattle.exchange_channels.proofs.ports.KeepPort.take_sender_back.Goals as goal

pub absorb-requires-clause-rule : goal.absorb-requires-clause-rule
absorb-requires-clause-rule c = sender_returns _ _ _ _ (search rules) (search rules) (search rules)
