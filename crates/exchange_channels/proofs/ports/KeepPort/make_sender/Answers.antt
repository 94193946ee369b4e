use Rattle.exchange_channels.proofs.Moves.{makes_sender}
use Rattle.std.proofs.Common.{rules}
use Rattle.exchange_channels.proofs.ports.KeepPort.make_sender.Goals as goal

pub another-pass-requires-clause-rule : goal.another-pass-requires-clause-rule
another-pass-requires-clause-rule c = makes_sender _ _ (search rules)
