-- the sink has taken the first `done` bytes
use Rattle.std.proofs.Common.{◌≤◌, Ok, length, take}
use Rattle.rel_io.specs.Sinks.{Offers, written_of}
use Rattle.output_texts.proofs.blocks.Block.print.Given as goal

abbrev pub invariant-loop-len : goal.invariant-loop-len
invariant-loop-len g l = record {
  within : l.done ≤ length l.text;
  offered : Offers (written_of g.O.Sink l.fn.out l.out) (take l.done l.text) (Ok tt);
}
