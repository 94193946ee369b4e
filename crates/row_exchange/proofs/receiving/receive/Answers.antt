use Rattle.row_exchange.proofs.ReceivingLemmas.{received-from}
use Rattle.row_exchange.proofs.receiving.receive.Goals as goal

pub returns-clause-received : goal.returns-clause-received
returns-clause-received g c =
    received-from c.args.atoms c.drain-end.result.0.got c.gather_if_drained-parts.result c.drain-end.result.1 c.gather_if_drained-parts.ensures c.drain-end.ensures.drained
