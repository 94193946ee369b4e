-- the places of the columns of the items so far
use Rattle.std.proofs.Common.{◌≡◌, take}
use Rattle.std.specs.Prelude.{sum}
use Rattle.std.specs.List.{range_with_len}
use Rattle.myrial_types.proofs.classes.all_columns.Given as goal

abbrev pub invariant-loop-width : goal.invariant-loop-width
invariant-loop-width l = l.columns.items ≡ range_with_len 0 (sum (take l.width-index l.widths))
