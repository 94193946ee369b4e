-- the passes so far are those of the cells so far, and there is room for the others
use Rattle.std.proofs.Common.{◌≡◌, ◌+◌, length, map}
use Rattle.exchange_channels.specs.Ports.{PortState}
use Rattle.exchange_channels.proofs.closing.passes_of.Given as goal

abbrev pub invariant-loop-cell : goal.invariant-loop-cell
invariant-loop-cell l = record {
  passes : l.passes.items ≡ map (λ (cell : PortState). cell.knows) l.yielded;
  room : l.passes.spare + length l.yielded ≡ l.initial.passes.spare;
}
