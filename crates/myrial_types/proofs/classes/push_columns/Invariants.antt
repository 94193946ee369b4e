-- so many further places are there
use Rattle.std.proofs.Common.{◌≡◌, ◌++◌, length}
use Rattle.std.specs.List.{range_with_len}
use Rattle.myrial_types.proofs.classes.push_columns.Given as goal

abbrev pub invariant-loop-nth : goal.invariant-loop-nth
invariant-loop-nth l = l.columns.items ≡ l.initial.columns.items ++ range_with_len (length l.initial.columns.items) l._nth
