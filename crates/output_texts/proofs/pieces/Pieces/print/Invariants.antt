-- the sink has taken the blocks so far
use Rattle.std.proofs.Common.{Ok, take}
use Rattle.rel_base.specs.Picks.{joined}
use Rattle.rel_io.specs.Sinks.{Offers, written_of}
use Rattle.output_texts.proofs.pieces.Pieces.print.Given as goal

abbrev pub invariant-loop-block : goal.invariant-loop-block
invariant-loop-block g l = Offers (written_of g.O.Sink l.fn.out l.out) (joined (take l.block-index l.block-items)) (Ok tt)
