use Rattle.exchange_channels.proofs.Moves.{begins, gives_receiver}
use Rattle.std.proofs.Common.{rules, arith}
use Rattle.std.proofs.lemmas.Grind.{common_steps}
use Rattle.exchange_channels.proofs.ports.KeepPort.new.Goals as goal

pub bounded_with-requires-clause-rule : goal.bounded_with-requires-clause-rule
bounded_with-requires-clause-rule c = begins

pub another-taker-requires-clause-rule : goal.another-taker-requires-clause-rule
another-taker-requires-clause-rule c = gives_receiver _ _ (search rules)

pub invariant_of-take : goal.invariant_of-take
invariant_of-take c = grind (arith, common_steps)

pub invariant_of-result : goal.invariant_of-result
invariant_of-result c = grind (arith, common_steps)

pub returns-clause-keeper : goal.returns-clause-keeper
returns-clause-keeper c = grind (arith, common_steps)

pub returns-clause-receiver : goal.returns-clause-receiver
returns-clause-receiver c = grind (arith, common_steps)
