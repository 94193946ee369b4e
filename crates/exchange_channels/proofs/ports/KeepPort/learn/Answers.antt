use Rattle.exchange_channels.proofs.Moves.{learns}
use Rattle.std.proofs.Common.{rules}
use Rattle.exchange_channels.proofs.ports.KeepPort.learn.Goals as goal

pub learn_as-requires-clause-rule : goal.learn_as-requires-clause-rule
learn_as-requires-clause-rule c = learns _ _ (search rules) (search rules) (search rules)
