-- the variables whose first column is among those so far
use Rattle.std.proofs.Common.{◌≡◌, filter, map}
use Rattle.std.specs.List.{range_with_len}
use Rattle.myrial_ast.specs.Classes.{joins_items}
use Rattle.myrial_types.specs.inner.Leaders.{class_by, is_first_by}
use Rattle.myrial_types.proofs.classes.variables.Given as goal

abbrev pub invariant-loop-column : goal.invariant-loop-column
invariant-loop-column l =
    l.found ≡ filter (joins_items l.widths) (map (class_by l.all) (filter (is_first_by l.all) (range_with_len 0 l.column)))
