-- the blocks so far are those of the parts so far
use Rattle.std.proofs.Common.{◌≡◌, map, Ok}
use Rattle.output_texts.proofs.jobs.all_made.Given as goal

abbrev pub invariant-loop-part : goal.invariant-loop-part
invariant-loop-part l = map Ok l.blocks.items ≡ l.yielded
