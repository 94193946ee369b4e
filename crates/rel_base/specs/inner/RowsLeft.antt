-- The rows of a stretch that are left.
use Rattle.std.specs.Prelude.{List}
use Rattle.rel_base.specs.declared.values.Value.{Value}
use Rattle.rel_base.specs.declared.row_iter.StretchIter.{StretchIter}
use Rattle.rel_base.specs.declared.row_iter.StretchIter.TheVariants.{Apart, At}

-- the rows, however they stand
abbrev pub rows_left : StretchIter → List (List Value)
rows_left (Apart rows) = rows
rows_left (At rows) = rows
