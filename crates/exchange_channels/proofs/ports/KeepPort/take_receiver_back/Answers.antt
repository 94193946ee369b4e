use Rattle.exchange_channels.proofs.Moves.{receiver_returns}
use Rattle.std.proofs.Common.{rules}
use Rattle.exchange_channels.proofs.ports.KeepPort.take_receiver_back.Goals as goal

pub absorb-requires-clause-rule : goal.absorb-requires-clause-rule
absorb-requires-clause-rule c = receiver_returns _ _ _ _ (search rules)
