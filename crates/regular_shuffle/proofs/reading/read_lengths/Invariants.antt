use Rattle.std.proofs.Common.{◌<◌, ◌^◌, take, length, All}
use Rattle.regular_shuffle.proofs.reading.read_lengths.Given as goal

abbrev pub invariant-loop-rows : goal.invariant-loop-rows
invariant-loop-rows l = All (λ rows. length rows < 2 ^ 32) (take l.rows-index l.rows-items)
