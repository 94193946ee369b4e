use Rattle.exchange_channels.proofs.Moves.{widens}
use Rattle.std.proofs.Common.{rules}
use Rattle.exchange_channels.proofs.ports.widen.Goals as goal

pub another-idle-requires-clause-rule : goal.another-idle-requires-clause-rule
another-idle-requires-clause-rule c = widens _ _ (search rules) (search rules)
