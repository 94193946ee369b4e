-- the text so far has the ranges so far
use Rattle.std.proofs.Common.{◌≡◌, ◌++◌, take}
use Rattle.output_texts.specs.inner.Ranges.{ranges_text}
use Rattle.output_texts.proofs.blocks.Block.add_ranges.Given as goal

abbrev pub invariant-loop-range : goal.invariant-loop-range
invariant-loop-range l = l.self ≡ l.fn.self ++ ranges_text (take l.range-index l.ranges)
