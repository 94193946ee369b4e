use Rattle.std.proofs.Common.{◌<◌, arith}
use Rattle.exchange_channels.specs.Messages.{end_of}
use Rattle.exchange_channels.specs.inner.Outlets.{port_with_sent}
use Rattle.exchange_channels.proofs.PortLemmas.{map_of_places}
use Rattle.exchange_channels.proofs.outlets.end_each.Goals as goal

pub returns : goal.returns
returns g c =
    map_of_places (λ port. port_with_sent port (end_of c.args.sender)) c.args.ports.now c.loop-port.ports (omega arith)
    (λ k d below. let here : k < c.loop-port.port-index = omega arith in c.loop-port.invariant.ended k d here)
